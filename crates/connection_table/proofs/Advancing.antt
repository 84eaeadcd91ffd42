-- What a change of a phase, and a part of a clipboard, keep of the machine's connections.
use Rattle.std.specs.Prelude.{◌≡◌, refl, ℕ, ◌<◌, ◌==◌, Bool, true, false, not, cond, List, [], ◌∷◌, MatchBool, Option, Some}
use Rattle.std.specs.List.{find}
use Rattle.std.proofs.Common.{sym, ap, ◌∙◌, subst}
use Rattle.share_base.specs.declared.clip_id.ClipId.{ClipId}
use Rattle.share_base.specs.declared.shape.Shape.{Shape}
use Rattle.share_base.specs.declared.clip_id.ClipId.TheVariants.{Clipboard, Selection}
use Rattle.message_codec.specs.declared.clip_mark.ClipMark.{ClipMark}
use Rattle.clip_chunks.specs.Parts.{part}
use Rattle.clip_chunks.specs.OpenRuns.{whole_at}
use Rattle.hello_states.specs.declared.part_cause.PartCause.{PartCause}
use Rattle.hello_states.specs.Phases.{Phase, AskedScreen, JoinedScreen, Greeting, Asked, Joined, Parting, is_parting, used_screen, after_beat_in, after_hearing_in}
use Rattle.hello_states.specs.Advancing.{admitted_as, joined_with, reshaped_to}
use Rattle.machine.specs.Connections.{Connection, has_serial, changed}
use Rattle.machine.specs.Hearing.{with_part, was_heard}
use Rattle.machine.specs.Timers.{sent_beat}
use Rattle.connection_table.specs.declared.connection.Connection as kept
use Rattle.connection_table.specs.FirstOf.{FirstChanges}
use Rattle.connection_table.specs.Calls.{Advances}
use Rattle.connection_table.specs.PartsTaken.{TakesPart}
use Rattle.connection_table.specs.Tables.{is_of, ChangesAt}
use Rattle.connection_table.specs.Standing.{Surroundings, StandsFor, IsKnown, Pairs, AreFor}
use Rattle.connection_table.proofs.Pairs.{pairs-changed}
use Prim.{search}

-- a phase that follows a parting is one, and what uses a screen goes on using it
pub record IsCourse (next : Phase → Phase) : Type 0 where
  pub ends : (p : Phase) → not (is_parting (next p)) ≡ true → not (is_parting p) ≡ true
  pub keeps : (count : ℕ) (p : Phase) → IsKnown count (used_screen p) → IsKnown count (used_screen (next p))

abbrev pub in_phase : Phase → Connection → Connection
in_phase phase c = record c { phase = phase }

stands-advanced : (a : Surroundings) (next : Phase → Phase) (k l : kept.Connection) (c : Connection) → ((p : Phase) → not (is_parting (next p)) ≡ true → not (is_parting p) ≡ true) → (IsKnown a.count (used_screen c.phase) → IsKnown a.count (used_screen (next c.phase))) → StandsFor a k c → Advances next k l → StandsFor a l (in_phase (next c.phase) c)
stands-advanced a next k l c ends keeps h p = subst (λ x. StandsFor a x (in_phase (next c.phase) c)) (sym p.rest) (record {
  serial = h.serial;
  phase = p.phase ∙ ap next h.phase;
  known = keeps h.known;
  role = h.role;
  heard = λ on. h.heard (ends c.phase on);
  reader = λ on. h.reader (ends c.phase on);
  clipboard = h.clipboard;
  selection = h.selection;
  queue = h.queue;
  taken = h.taken;
  dropped = h.dropped;
  holds = λ on. h.holds (ends c.phase on);
})

serial-is : (a : Surroundings) (k : kept.Connection) (c : Connection) → StandsFor a k c → k.serial ≡ c.serial
serial-is a k c h = h.serial

-- the machine's connection of that serial, where there is one, comes into the phase that follows
pub are-advanced : (a : Surroundings) (n : ℕ) (next : Phase → Phase) (f : Connection → Connection) (ks ls : List kept.Connection) (cs : List Connection) → ((p : Phase) → not (is_parting (next p)) ≡ true → not (is_parting p) ≡ true) → ((c : Connection) → find (has_serial n) cs ≡ Some c → IsKnown a.count (used_screen c.phase) → IsKnown a.count (used_screen (next c.phase))) → ((c : Connection) → (f c).serial ≡ c.serial) → ((c : Connection) → find (has_serial n) cs ≡ Some c → f c ≡ in_phase (next c.phase) c) → AreFor a ks cs → ChangesAt n (Advances next) ks ls → AreFor a ls (changed n f cs)
are-advanced a n next f ks ls cs ends keeps same here h g =
    pairs-changed n (StandsFor a) (StandsFor a) (Advances next) f (find (has_serial n) cs) same (serial-is a)
    (λ k l c e r p. subst (StandsFor a l) (sym (here c e)) (stands-advanced a next k l c ends (keeps c e) r p))
    (λ k c e r. r)
    0 ks ls cs refl h g

-- ---- parts of clipboards

stands-part : (a : Surroundings) (clip : ClipId) (seq : ℕ) (mark : ClipMark) (bytes : List ℕ) (whole : Option (List ℕ)) (k l : kept.Connection) (c : Connection) → StandsFor a k c → TakesPart clip seq mark bytes whole k l → StandsFor a l (with_part (part mark clip seq bytes) c)
stands-part a Clipboard seq mark bytes whole k l c h p = subst (λ x. StandsFor a x (with_part (part mark Clipboard seq bytes) c)) (sym p.rest) (search (p.takes a.limit c.parts h.clipboard, h.selection.limit_is, h.selection.run_is))
stands-part a Selection seq mark bytes whole k l c h p = subst (λ x. StandsFor a x (with_part (part mark Selection seq bytes) c)) (sym p.rest) (search (p.takes a.limit c.parts h.selection, h.clipboard.limit_is, h.clipboard.run_is))

pub are-parts : (a : Surroundings) (n : ℕ) (clip : ClipId) (seq : ℕ) (mark : ClipMark) (bytes : List ℕ) (whole : Option (List ℕ)) (ks ls : List kept.Connection) (cs : List Connection) → AreFor a ks cs → ChangesAt n (TakesPart clip seq mark bytes whole) ks ls → AreFor a ls (changed n (with_part (part mark clip seq bytes)) cs)
are-parts a n clip seq mark bytes whole ks ls cs h g =
    pairs-changed n (StandsFor a) (StandsFor a) (TakesPart clip seq mark bytes whole) (with_part (part mark clip seq bytes)) (find (has_serial n) cs) (λ c. refl) (serial-is a)
    (λ k l c e r p. stands-part a clip seq mark bytes whole k l c r p)
    (λ k c e r. r)
    0 ks ls cs refl h g

-- what is so of each connection that is kept before and after the change is so of the one that is found
found-after : (n : ℕ) (R : kept.Connection → Connection → Type 0) (C : kept.Connection → kept.Connection → Type 0) (P : Connection → Type 0) → ((k : kept.Connection) (c : Connection) → R k c → k.serial ≡ c.serial) → ((k l : kept.Connection) (c : Connection) → R k c → C k l → P c) → (low : ℕ) (ks ls : List kept.Connection) (cs : List Connection) (c : Connection) → find (has_serial n) cs ≡ Some c → Pairs R low ks cs → FirstChanges (is_of n) C ks ls → P c
found-after n R C P same here low [] ls [] c e h g = absurd (let x : ⊥ = cc in x)
found-after n R C P same here low [] ls (d ∷ cs) c e h g = absurd h
found-after n R C P same here low (k ∷ ks) ls [] c e h g = absurd (let x : ⊥ = cc in x)
found-after n R C P same here low (k ∷ ks) [] (d ∷ cs) c e h g = absurd g
found-after n R C P same here low (k ∷ ks) (l ∷ ls) (d ∷ cs) c e h g =
    by (d.serial == n) e (subst (λ m. MatchBool (m == n) (C k l × (ls ≡ ks)) ((l ≡ k) × FirstChanges (is_of n) C ks ls)) (same k d h.1) g) (λ f. found-after n R C P same here d.serial ks ls cs c f h.2)
  where
    by : (b : Bool) → cond b (Some d) (find (has_serial n) cs) ≡ Some c → MatchBool b (C k l × (ls ≡ ks)) ((l ≡ k) × FirstChanges (is_of n) C ks ls) → (find (has_serial n) cs ≡ Some c → FirstChanges (is_of n) C ks ls → P c) → P c
    by true e g later = let is : d ≡ c = cc in subst P is (here k l d h.1 g.0)
    by false e g later = later e g.1

-- the answer is the whole that the part ends after those that came
pub whole-found : (a : Surroundings) (n : ℕ) (clip : ClipId) (seq : ℕ) (mark : ClipMark) (bytes : List ℕ) (whole : Option (List ℕ)) (ks ls : List kept.Connection) (cs : List Connection) (c : Connection) → find (has_serial n) cs ≡ Some c → AreFor a ks cs → ChangesAt n (TakesPart clip seq mark bytes whole) ks ls → whole ≡ whole_at a.limit (part mark clip seq bytes) c.parts
whole-found a n clip seq mark bytes whole ks ls cs c e h g =
    found-after n (StandsFor a) (TakesPart clip seq mark bytes whole) (λ d. whole ≡ whole_at a.limit (part mark clip seq bytes) d.parts) (serial-is a) (λ k l d r p. by clip k l d r p) 0 ks ls cs c e h g
  where
    by : (clip : ClipId) (k l : kept.Connection) (d : Connection) → StandsFor a k d → TakesPart clip seq mark bytes whole k l → whole ≡ whole_at a.limit (part mark clip seq bytes) d.parts
    by Clipboard k l d r p = p.found a.limit d.parts r.clipboard
    by Selection k l d r p = p.found a.limit d.parts r.selection

-- ---- each change

-- it is parting where it was before, and uses the screen that it used
abbrev StaysIn : (Phase → Phase) → Phase → Type 0
StaysIn next p = (is_parting (next p) ≡ is_parting p) × (used_screen (next p) ≡ used_screen p)

course : (next : Phase → Phase) → ((a : ℕ) → StaysIn next (Greeting a)) → ((a : AskedScreen) → StaysIn next (Asked a)) → ((a : JoinedScreen) → StaysIn next (Joined a)) → ((a : PartCause) (b : ℕ) → StaysIn next (Parting a b)) → IsCourse next
course next greeting asked joined parting = record {
  ends = λ p h. subst (λ b. not b ≡ true) (stays p).0 h;
  keeps = λ count p h. subst (IsKnown count) (sym (stays p).1) h;
}
  where
    stays : (p : Phase) → StaysIn next p
    stays (Greeting a) = greeting a
    stays (Asked a) = asked a
    stays (Joined a) = joined a
    stays (Parting a b) = parting a b

pub beat-course : (now : ℕ) → IsCourse (λ p. after_beat_in p now)
beat-course now = course (λ p. after_beat_in p now) (λ a. (refl, refl)) (λ a. (refl, refl)) (λ a. (refl, refl)) (λ a b. (refl, refl))

pub hearing-course : (now : ℕ) → IsCourse (λ p. after_hearing_in p now)
hearing-course now = course (λ p. after_hearing_in p now) (λ a. (refl, refl)) (λ a. (refl, refl)) (λ a. (refl, refl)) (λ a b. (refl, refl))

pub joining-course : (shape : Shape) (now : ℕ) → IsCourse (joined_with shape now)
joining-course shape now = course (joined_with shape now) (λ a. (refl, refl)) (λ a. (refl, refl)) (λ a. (refl, refl)) (λ a b. (refl, refl))

pub reshaping-course : (shape : Shape) (now : ℕ) → IsCourse (reshaped_to shape now)
reshaping-course shape now = course (reshaped_to shape now) (λ a. (refl, refl)) (λ a. (refl, refl)) (λ a. (refl, refl)) (λ a b. (refl, refl))

-- an admission
pub admission-ends : (screen rate : ℕ) (p : Phase) → not (is_parting (admitted_as screen rate p)) ≡ true → not (is_parting p) ≡ true
admission-ends screen rate (Greeting a) h = refl
admission-ends screen rate (Asked a) h = refl
admission-ends screen rate (Joined a) h = refl
admission-ends screen rate (Parting a b) h = h

pub admission-keeps : (screen rate count : ℕ) (p : Phase) → screen < count → IsKnown count (used_screen p) → IsKnown count (used_screen (admitted_as screen rate p))
admission-keeps screen rate count (Greeting a) lt h = lt
admission-keeps screen rate count (Asked a) lt h = h
admission-keeps screen rate count (Joined a) lt h = h
admission-keeps screen rate count (Parting a b) lt h = h

pub are-beaten : (a : Surroundings) (n now : ℕ) (ks ls : List kept.Connection) (cs : List Connection) → AreFor a ks cs → ChangesAt n (Advances (λ p. after_beat_in p now)) ks ls → AreFor a ls (changed n (sent_beat now) cs)
are-beaten a n now ks ls cs h g = are-advanced a n (λ p. after_beat_in p now) (sent_beat now) ks ls cs (beat-course now).ends (λ c e k. (beat-course now).keeps a.count c.phase k) (λ c. refl) (λ c e. refl) h g

pub are-heard : (a : Surroundings) (n now : ℕ) (ks ls : List kept.Connection) (cs : List Connection) → AreFor a ks cs → ChangesAt n (Advances (λ p. after_hearing_in p now)) ks ls → AreFor a ls (changed n (was_heard now) cs)
are-heard a n now ks ls cs h g = are-advanced a n (λ p. after_hearing_in p now) (was_heard now) ks ls cs (hearing-course now).ends (λ c e k. (hearing-course now).keeps a.count c.phase k) (λ c. refl) (λ c e. refl) h g

-- what is so of each connection for which one is kept is so of the one that is found
pub pairs-found : (R : kept.Connection → Connection → Type 0) (P : Connection → Type 0) (t : Connection → Bool) → ((k : kept.Connection) (c : Connection) → R k c → P c) → (low : ℕ) (ks : List kept.Connection) (cs : List Connection) (c : Connection) → find t cs ≡ Some c → Pairs R low ks cs → P c
pairs-found R P t each low [] [] c e h = absurd (let x : ⊥ = cc in x)
pairs-found R P t each low [] (d ∷ cs) c e h = absurd h
pairs-found R P t each low (k ∷ ks) [] c e h = absurd h
pairs-found R P t each low (k ∷ ks) (d ∷ cs) c e h = by (t d) e (λ f. pairs-found R P t each d.serial ks cs c f h.2)
  where
    by : (b : Bool) → cond b (Some d) (find t cs) ≡ Some c → (find t cs ≡ Some c → P c) → P c
    by true e later = let is : d ≡ c = cc in subst P is (each k d h.1)
    by false e later = later e
