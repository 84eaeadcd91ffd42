-- A copy of the script that is kept first and then told of.
use Rattle.std.specs.Prelude.{◌≡◌, refl, ℕ, Bool, true, false, not, ◌&&◌, List, [], ◌∷◌, if◌then◌else◌}
use Rattle.std.proofs.Common.{sym, ap, ◌∙◌, subst}
use Rattle.share_base.specs.Screens.{has}
use Rattle.share_base.specs.declared.clip_id.ClipId.{ClipId}
use Rattle.message_codec.specs.declared.messages.Msg.{Msg}
use Rattle.message_codec.specs.declared.messages.Msg.TheVariants as msg
use Rattle.clip_chunks.specs.declared.book.ClipBook.{ClipBook}
use Rattle.clip_chunks.specs.Books as books
use Rattle.clip_chunks.specs.Calls.{Copied, ruled}
use Rattle.clip_chunks.specs.Clips.{Clip, Clips, with_clip}
use Rattle.clip_chunks.specs.Rules as rules
use Rattle.machine.specs.Targets.{Target, Own}
use Rattle.machine.specs.States.{State}
use Rattle.machine.specs.Combining.{when}
use Rattle.machine.specs.Screens.{joined_screens, joined_clients, is_screen_joined}
use Rattle.machine.specs.Routing.{route, route_all}
use Rattle.machine.specs.Clipboards.{set_clip, clip_limit, is_sharing, refresh, publish, copy}
use Rattle.machine.proofs.Rules.{for_each-keeps}
use Rattle.server_core.specs.declared.server.ServerCore.{ServerCore}
use Rattle.server_core.specs.Standing.{Stands}
use Rattle.server_core.specs.Leading.{Leads, Reads}
use Rattle.server_core.proofs.Moved.{stands-clips}

-- the clipboard as the copy leaves it
abbrev pub kept : ClipId → List ℕ → State → State
kept id bytes s = set_clip id (rules.known s.primary s.sequence bytes (joined_screens s)) s

-- telling others changes no clipboard
set_told : (id : ClipId) (c : Clip) (ts : List Target) (m : Msg) (s : State) → route_all Own ts m (set_clip id c s) ≡ set_clip id c (route_all Own ts m s)
set_told id c [] m s = refl
set_told id c (t ∷ ts) m s = set_told id c ts m (route Own t m s)

same_screens : (ts : List Target) (m : Msg) (s : State) → joined_screens (route_all Own ts m s) ≡ joined_screens s
same_screens ts m s = for_each-keeps (λ t. joined_screens t ≡ joined_screens s) ts (λ t. route Own t m) (λ t u k. k) s refl

published : (id : ClipId) (bytes : List ℕ) (s : State) → refresh id (route_all Own (joined_clients s) (msg.Grab id 0) (kept id bytes s)) ≡ publish id bytes s
published id bytes s = ap (refresh id) (set_told id (rules.known s.primary s.sequence bytes (joined_screens s)) (joined_clients s) (msg.Grab id 0) s ∙ ap (λ ns. set_clip id (rules.known s.primary s.sequence bytes ns) (route_all Own (joined_clients s) (msg.Grab id 0) s)) (sym (same_screens (joined_clients s) (msg.Grab id 0) s)))

pub sure : (b : Bool) → not b ≡ false → b ≡ true
sure true e = refl
sure false e = sym e

-- a copy that counts
pub copy-kept : (core : ServerCore) (id : ClipId) (bytes : List ℕ) (set : ℕ) (book : ClipBook) (counts : Bool) → counts ≡ rules.copy_counts core.clips.limit bytes → counts ≡ true → ((n : ℕ) → Reads core (has set n) (λ s. is_screen_joined s n)) → books.FollowsWith set core.clips book (Copied id bytes core.sequence) → Leads core (record core { clips = book }) (kept id bytes)
copy-kept core id bytes set book counts e is joined follows = λ b s h.
    let f : books.Follows core.clips book (Copied id bytes core.sequence (joined_screens s)) = follows (joined_screens s) (λ n. joined n b s h) in
    let ruled_so : ruled core.clips.primary.0 core.clips.limit (Copied id bytes core.sequence (joined_screens s)) s.clips ≡ with_clip id (rules.known core.clips.primary.0 core.sequence bytes (joined_screens s)) s.clips = ap (λ (t : Bool). if t then with_clip id (rules.known core.clips.primary.0 core.sequence bytes (joined_screens s)) s.clips else s.clips) (sym e ∙ is) in
    let right : with_clip id (rules.known core.clips.primary.0 core.sequence bytes (joined_screens s)) s.clips ≡ with_clip id (rules.known s.primary s.sequence bytes (joined_screens s)) s.clips = ap (λ n. with_clip id (rules.known n core.sequence bytes (joined_screens s)) s.clips) h.clips_of ∙ ap (λ n. with_clip id (rules.known s.primary n bytes (joined_screens s)) s.clips) h.sequence in
    stands-clips b core s book (with_clip id (rules.known s.primary s.sequence bytes (joined_screens s)) s.clips) h f.primary f.limit (subst (λ (cs : Clips). books.StandsAt book cs) (ruled_so ∙ right) (f.stands s.clips h.clips))

pub copy-published : (old kept_core told new : ServerCore) (id : ClipId) (bytes : List ℕ) (sharing counts : Bool) → Reads old sharing is_sharing → sharing ≡ true → counts ≡ rules.copy_counts old.clips.limit bytes → counts ≡ true → Leads old kept_core (kept id bytes) → Leads kept_core told (λ s. route_all Own (joined_clients s) (msg.Grab id 0) s) → Leads told new (refresh id) → Leads old new (copy id bytes)
copy-published old kept_core told new id bytes sharing counts reads shares e is keeps tells gives = λ b s h.
    let all : (is_sharing s && rules.copy_counts (clip_limit s) bytes) ≡ true = ap (λ (t : Bool). t && rules.copy_counts (clip_limit s) bytes) (sym (reads b s h) ∙ shares) ∙ (ap (λ n. rules.copy_counts n bytes) (sym h.clips_limit) ∙ (sym e ∙ is)) in
    subst (λ (t : Bool). Stands b new (when t (publish id bytes) s)) (sym all) (subst (λ t. Stands b new t) (published id bytes s) (gives b _ (tells b _ (keeps b s h))))
