-- A clipboard that a client takes, or sends whole.
use Rattle.std.specs.Prelude.{◌≡◌, refl, ℕ, Bool, true, false, ◌&&◌, List, if◌then◌else◌}
use Rattle.std.proofs.Common.{sym, ap, ◌∙◌, subst}
use Rattle.share_base.specs.Screens.{has}
use Rattle.share_base.specs.declared.clip_id.ClipId.{ClipId}
use Rattle.message_codec.specs.declared.messages.Msg.TheVariants as msg
use Rattle.clip_chunks.specs.declared.book.ClipBook.{ClipBook}
use Rattle.clip_chunks.specs.Books as books
use Rattle.clip_chunks.specs.Calls.{Grabbed, Sent}
use Rattle.clip_chunks.specs.Clips.{clip_of, with_clip}
use Rattle.clip_chunks.specs.Rules as rules
use Rattle.machine.specs.Targets.{Client, Own}
use Rattle.machine.specs.States.{State}
use Rattle.machine.specs.Combining.{when}
use Rattle.machine.specs.Screens.{screen_of, joined_screens, is_screen_joined}
use Rattle.machine.specs.Routing.{route_all}
use Rattle.machine.specs.Clipboards.{clip, set_clip, is_sharing, refresh, all_but, take_over, become_known, grab, whole}
use Rattle.server_core.specs.declared.server.ServerCore.{ServerCore}
use Rattle.server_core.specs.Leading.{Leads, Reads}
use Rattle.server_core.specs.Standing.{Stands}
use Rattle.server_core.proofs.Moved.{stands-clips}

never : (a t : Bool) → t ≡ false → (a && t) ≡ false
never true t e = e
never false t e = refl

both : (a t : Bool) → a ≡ true → t ≡ true → (a && t) ≡ true
both true t e f = f
both false t e f = e

-- ---- grabs

abbrev pub grabs : ClipId → ℕ → State → Bool
grabs id seq s = rules.grab_counts seq s.sequence (clip s id)

abbrev pub taken : ClipId → ℕ → ℕ → State → State
taken id n seq s = set_clip id (rules.unknown (screen_of s (Client n)) seq) s

pub grab-unshared : (core : ServerCore) (id : ClipId) (n seq : ℕ) (sharing : Bool) → Reads core sharing is_sharing → sharing ≡ false → Leads core core (grab id n seq)
grab-unshared core id n seq sharing reads off = λ b s h. subst (λ (t : Bool). Stands b core (when (t && grabs id seq s) (take_over id n seq) s)) (sym off ∙ reads b s h) h

pub grab-passed : (old new : ServerCore) (id : ClipId) (n seq : ℕ) (counts : Bool) → Reads old counts (grabs id seq) → counts ≡ false → new ≡ old → Leads old new (grab id n seq)
grab-passed old new id n seq counts reads off same = λ b s h. subst (λ (t : Bool). Stands b new (when t (take_over id n seq) s)) (sym (never (is_sharing s) (grabs id seq s) (sym (reads b s h) ∙ off))) (subst (λ k. Stands b k s) (sym same) h)

pub grab-counted : (old kept new : ServerCore) (id : ClipId) (n seq : ℕ) (sharing counts : Bool) → Reads old sharing is_sharing → sharing ≡ true → Reads old counts (grabs id seq) → counts ≡ true → Leads old kept (taken id n seq) → Leads kept new (λ s. route_all Own (all_but n s) (msg.Grab id 0) s) → Leads old new (grab id n seq)
grab-counted old kept new id n seq sharing counts shares on reads is takes tells = λ b s h. subst (λ (t : Bool). Stands b new (when t (take_over id n seq) s)) (sym (both (is_sharing s) (grabs id seq s) (sym (shares b s h) ∙ on) (sym (reads b s h) ∙ is))) (tells b (taken id n seq s) (takes b s h))

pub clip-taken : (core : ServerCore) (id : ClipId) (n seq screen : ℕ) (book : ClipBook) (counts : Bool) → counts ≡ true → books.GrabAnswer core.clips id seq core.sequence counts → books.Follows core.clips book (Grabbed id screen seq core.sequence) → Reads core screen (λ s. screen_of s (Client n)) → Leads core (record core { clips = book }) (taken id n seq)
clip-taken core id n seq screen book counts on answer follows reads = λ b s h.
    let is : rules.grab_counts seq core.sequence (clip_of id s.clips) ≡ true = sym (answer s.clips h.clips) ∙ on in
    stands-clips b core s book (with_clip id (rules.unknown (screen_of s (Client n)) seq) s.clips) h follows.primary follows.limit
    (subst (λ m. books.StandsAt book (with_clip id (rules.unknown m seq) s.clips)) (reads b s h)
    (subst (λ (t : Bool). books.StandsAt book (if t then with_clip id (rules.unknown screen seq) s.clips else s.clips)) is (follows.stands s.clips h.clips)))

pub grab-answer : (core : ServerCore) (id : ClipId) (seq : ℕ) (counts : Bool) → books.GrabAnswer core.clips id seq core.sequence counts → Reads core counts (grabs id seq)
grab-answer core id seq counts answer = λ b s h. answer s.clips h.clips ∙ ap (λ m. rules.grab_counts seq m (clip s id)) h.sequence

-- ---- wholes

abbrev pub counts_whole : ClipId → ℕ → ℕ → State → Bool
counts_whole id n seq s = rules.whole_counts (screen_of s (Client n)) seq s.sequence (clip s id)

abbrev pub kept : ClipId → ℕ → ℕ → List ℕ → State → State
kept id n seq bytes s = set_clip id (rules.known (screen_of s (Client n)) seq bytes (joined_screens s)) s

abbrev pub became : ClipId → ℕ → ℕ → List ℕ → State → State
became id n seq bytes s = become_known id (screen_of s (Client n)) seq bytes s

pub whole-unshared : (core : ServerCore) (id : ClipId) (n seq : ℕ) (bytes : List ℕ) (sharing : Bool) → Reads core sharing is_sharing → sharing ≡ false → Leads core core (whole id n seq bytes)
whole-unshared core id n seq bytes sharing reads off = λ b s h. subst (λ (t : Bool). Stands b core (when (t && counts_whole id n seq s) (become_known id (screen_of s (Client n)) seq bytes) s)) (sym off ∙ reads b s h) h

pub whole-passed : (old new : ServerCore) (id : ClipId) (n seq : ℕ) (bytes : List ℕ) (counts : Bool) → Reads old counts (counts_whole id n seq) → counts ≡ false → new ≡ old → Leads old new (whole id n seq bytes)
whole-passed old new id n seq bytes counts reads off same = λ b s h. subst (λ (t : Bool). Stands b new (when t (become_known id (screen_of s (Client n)) seq bytes) s)) (sym (never (is_sharing s) (counts_whole id n seq s) (sym (reads b s h) ∙ off))) (subst (λ k. Stands b k s) (sym same) h)

pub whole-counted : (old now new : ServerCore) (id : ClipId) (n seq : ℕ) (bytes : List ℕ) (sharing counts : Bool) → Reads old sharing is_sharing → sharing ≡ true → Reads old counts (counts_whole id n seq) → counts ≡ true → Leads old now (kept id n seq bytes) → Leads now new (refresh id) → Leads old new (whole id n seq bytes)
whole-counted old now new id n seq bytes sharing counts shares on reads is keeps gives = λ b s h. subst (λ (t : Bool). Stands b new (when t (become_known id (screen_of s (Client n)) seq bytes) s)) (sym (both (is_sharing s) (counts_whole id n seq s) (sym (shares b s h) ∙ on) (sym (reads b s h) ∙ is))) (gives b (kept id n seq bytes s) (keeps b s h))

pub whole-kept : (core : ServerCore) (id : ClipId) (n seq screen set : ℕ) (bytes : List ℕ) (book : ClipBook) (counts : Bool) → counts ≡ true → books.WholeAnswer core.clips id screen seq core.sequence counts → ((m : ℕ) → Reads core (has set m) (λ s. is_screen_joined s m)) → books.FollowsWith set core.clips book (Sent id screen seq core.sequence bytes) → Reads core screen (λ s. screen_of s (Client n)) → Leads core (record core { clips = book }) (kept id n seq bytes)
whole-kept core id n seq screen set bytes book counts on answer joined follows reads = λ b s h.
    let f : books.Follows core.clips book (Sent id screen seq core.sequence bytes (joined_screens s)) = follows (joined_screens s) (λ m. joined m b s h) in
    let is : rules.whole_counts screen seq core.sequence (clip_of id s.clips) ≡ true = sym (answer s.clips h.clips) ∙ on in
    stands-clips b core s book (with_clip id (rules.known (screen_of s (Client n)) seq bytes (joined_screens s)) s.clips) h f.primary f.limit
    (subst (λ m. books.StandsAt book (with_clip id (rules.known m seq bytes (joined_screens s)) s.clips)) (reads b s h)
    (subst (λ (t : Bool). books.StandsAt book (if t then with_clip id (rules.known screen seq bytes (joined_screens s)) s.clips else s.clips)) is (f.stands s.clips h.clips)))

pub whole-answer : (core : ServerCore) (id : ClipId) (n seq screen : ℕ) (counts : Bool) → Reads core screen (λ s. screen_of s (Client n)) → books.WholeAnswer core.clips id screen seq core.sequence counts → Reads core counts (counts_whole id n seq)
whole-answer core id n seq screen counts reads answer = λ b s h. answer s.clips h.clips ∙ (ap (λ m. rules.whole_counts screen seq m (clip s id)) h.sequence ∙ ap (λ m. rules.whole_counts m seq s.sequence (clip s id)) (reads b s h))

pub same-book : (core : ServerCore) (book : ClipBook) → book ≡ core.clips → record core { clips = book } ≡ core
same-book core book e = ap (λ (k : ClipBook). record core { clips = k }) e
