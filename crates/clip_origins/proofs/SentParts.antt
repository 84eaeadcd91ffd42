-- The parts that are kept of a connection are the last of those among the messages that it sent.
use Rattle.std.specs.Prelude.{◌≡◌, refl, ℕ, Bool, true, false, not, ◌==◌, List, [], ◌∷◌, ◌++◌, length, drop, reverse, Option, Some, None, unwrap_or}
use Rattle.std.specs.List.{cons_option, AllByRecursion}
use Rattle.std.specs.Option.{option_map}
use Rattle.std.proofs.Common.{ap, sym, subst, ◌∙◌, append_assoc}
use Rattle.std.proofs.lemmas.Bool.{eq-eqb}
use Rattle.std.proofs.lemmas.List.{append-nil, reverse-append}
use Rattle.std.proofs.lemmas.List.Elements.{filter_map-append}
use Rattle.share_base.specs.declared.clip_id.ClipId.{ClipId}
use Rattle.message_codec.specs.declared.clip_mark.ClipMark.{ClipMark}
use Rattle.message_codec.specs.declared.messages.Msg.{Msg}
use Rattle.message_codec.specs.declared.messages.Msg.TheVariants as msg
use Rattle.message_codec.specs.Inboxes.{Inbox}
use Rattle.hello_states.specs.declared.part_cause.PartCause.TheVariants as cause
use Rattle.hello_states.specs.Phases.{Phase, Greeting, Asked, Joined, Parting, JoinedScreen, is_parting, after_hearing_in}
use Rattle.clip_chunks.specs.Parts.{Part, part, part_of, parts_among}
use Rattle.machine.specs.Connections.{Connection, fresh, with_serial, changed, is_live}
use Rattle.machine.specs.States.{State}
use Rattle.machine.specs.Combining.{for_each}
use Rattle.machine.specs.Screens.{phase_of, lives, change}
use Rattle.machine.specs.Hearing.{with_part, was_heard, hear_in, hear}
use Rattle.machine.specs.Acceptance.{opened}
use Rattle.machine.specs.Timers.{after_timers}
use Rattle.machine.specs.OneForOne.{RunLine, lines_run_now}
use Rattle.machine.specs.Happenings as happening
use Rattle.machine.specs.Happenings.{Happening}
use Rattle.machine.specs.Steps.{inbox_of, received_by, receives, hear_piece, got, step}
use Rattle.machine.proofs.Rules.{when-keeps-if}
use Rattle.machine.proofs.Finding.{none_some}
use Rattle.clip_origins.proofs.Found.{SameSerial, was-found, itself, another, same_number, found-appended, found-removed}
use Rattle.clip_origins.proofs.Keeping.{is_early, IsQuiet, Clipped, On, IsKept}
use Rattle.clip_origins.proofs.KeepingPartings.{part_slow-keeps}
use Rattle.clip_origins.proofs.KeepingScripts.{Copies, run_script-keeps, after_timers-keeps}
use Rattle.clip_origins.proofs.KeepingHearing.{found-phase, heard-quiet, hear_part-keeps, hear-keeps, judge-keeps, accept-keeps, breaks-keeps, takes-keeps}
use Rattle.clip_origins.proofs.Prefixes.{added-messages}

-- those that are kept stand last, the newest first
abbrev pub AreLast : List Msg → List Part → Type 0
AreLast ms kept = (dropped : List Part) × (parts_among ms ≡ dropped ++ reverse kept)

-- before it has joined it keeps none, and where it lives they are the last that it sent
pub record HasLast (ms : List Msg) (c : Connection) : Type 0 where
  pub early : is_early c.phase ≡ true → c.parts ≡ []
  pub last : is_live c ≡ true → AreLast ms c.parts

quiet-last : (ms : List Msg) (c d : Connection) → IsQuiet c d → HasLast ms c → HasLast ms d
quiet-last ms c d q h = record { early = λ e. q.parts ∙ h.early (q.early e); last = λ e. subst (AreLast ms) (sym q.parts) (h.last (q.live e)) }

-- it sent these bytes, and of these messages it keeps the last parts
abbrev pub HasSent : List ℕ → List Msg → Connection → Type 0
HasSent bytes ms c = (c.received ≡ bytes) × HasLast ms c

-- of all messages that its bytes come to
abbrev pub HasHeard : Connection → Type 0
HasHeard c = HasLast (inbox_of c.received).messages c

-- ---- at one connection

abbrev pub At : ℕ → (Connection → Type 0) → Clipped
At n R clips cs = (c : Connection) → with_serial n cs ≡ Some c → R c

abbrev pub Lasts : (Connection → Type 0) → Type 0
Lasts R = (c d : Connection) → IsQuiet c d → R c → R d

changed-at : (n : ℕ) (R : Connection → Type 0) → Lasts R → (serial : ℕ) (f : Connection → Connection) (cs : List Connection) → SameSerial f → ((k : Connection) → with_serial serial cs ≡ Some k → IsQuiet k (f k))
    → ((c : Connection) → with_serial n cs ≡ Some c → R c) → (c : Connection) → with_serial n (changed serial f cs) ≡ Some c → R c
changed-at n R lasts serial f cs same quiet h c e = by (serial == n) refl
  where
    by : (b : Bool) → (serial == n) ≡ b → R c
    by true k =
        let is : serial ≡ n = same_number serial serial n (eq-eqb serial serial refl) k in
        let w = was-found n serial f same cs c e in
        let own : with_serial serial cs ≡ Some w.was = subst (λ (m : ℕ). with_serial m cs ≡ Some w.was) (sym is) w.found in
        subst R (sym (w.now ∙ itself serial f cs w.was own)) (lasts w.was (f w.was) (quiet w.was own) (h w.was w.found))
    by false k = let w = was-found n serial f same cs c e in subst R (sym (w.now ∙ another n serial f cs w.was k w.found)) (h w.was w.found)

pub at-kept : (n : ℕ) (R : Connection → Type 0) → Lasts R → IsKept (At n R)
at-kept n R lasts = record {
  entered = λ id screen c cs h. h;
  unknown = λ id owner seq c cs h. h;
  joined = λ screen c cs h. h;
  left = λ primary screen c cs h. h;
  changed = λ serial f c cs same quiet h. changed-at n R lasts serial f cs same quiet h;
}

sent-kept : (n : ℕ) (bytes : List ℕ) (ms : List Msg) → IsKept (At n (HasSent bytes ms))
sent-kept n bytes ms = at-kept n (HasSent bytes ms) (λ c d q h. (q.received ∙ h.0, quiet-last ms c d q h.1))

heard-lasts : Lasts HasHeard
heard-lasts c d q h = quiet-last (inbox_of d.received).messages c d q (subst (λ (bs : List ℕ). HasLast (inbox_of bs).messages c) (sym q.received) h)

heard-kept : (n : ℕ) → IsKept (At n HasHeard)
heard-kept n = at-kept n HasHeard heard-lasts

-- a change of another connection
pub other-changed : (n serial : ℕ) (f : Connection → Connection) → SameSerial f → (serial == n) ≡ false → (R : Connection → Type 0) (cs : List Connection) → ((c : Connection) → with_serial n cs ≡ Some c → R c) → (c : Connection) → with_serial n (changed serial f cs) ≡ Some c → R c
other-changed n serial f same other R cs h c e = let w = was-found n serial f same cs c e in subst R (sym (w.now ∙ another n serial f cs w.was other w.found)) (h w.was w.found)

-- and of its own
pub own-changed : (n : ℕ) (f : Connection → Connection) → SameSerial f → (R S : Connection → Type 0) (cs : List Connection) → ((c : Connection) → with_serial n cs ≡ Some c → R c → S (f c)) → ((c : Connection) → with_serial n cs ≡ Some c → R c) → (c : Connection) → with_serial n (changed n f cs) ≡ Some c → S c
own-changed n f same R S cs goes h c e = let w = was-found n n f same cs c e in subst S (sym (w.now ∙ itself n f cs w.was w.found)) (goes w.was w.found (h w.was w.found))

-- ---- one more message

more-none : (ms : List Msg) (m : Msg) → part_of m ≡ None → parts_among (ms ++ m ∷ []) ≡ parts_among ms
more-none ms m e = filter_map-append part_of ms (m ∷ []) ∙ (ap (λ (o : Option Part). parts_among ms ++ cons_option o []) e ∙ append-nil (parts_among ms))

more-part : (ms : List Msg) (m : Msg) (p : Part) → part_of m ≡ Some p → parts_among (ms ++ m ∷ []) ≡ parts_among ms ++ p ∷ []
more-part ms m p e = filter_map-append part_of ms (m ∷ []) ∙ ap (λ (o : Option Part). parts_among ms ++ cons_option o []) e

plain-sent : (n : ℕ) (bytes : List ℕ) (ms : List Msg) (m : Msg) (s : State) → part_of m ≡ None → On (At n (HasSent bytes ms)) s → On (At n (HasSent bytes (ms ++ m ∷ []))) (hear n m s)
plain-sent n bytes ms m s none h c e =
    let r : HasSent bytes ms c = hear-keeps (sent-kept n bytes ms) n m s (λ p j is f g. none_some p (sym none ∙ is)) h c e in
    (r.0, record { early = r.1.early; last = λ on. let l = r.1.last on in (l.0, more-none ms m none ∙ l.1) })

-- one that is early keeps none of any
early-last : (ms more : List Msg) (c : Connection) → is_early c.phase ≡ true → HasLast ms c → HasLast more c
early-last ms more c e h = record { early = h.early; last = λ on. (parts_among more, sym (ap (λ (ps : List Part). parts_among more ++ reverse ps) (h.early e) ∙ append-nil (parts_among more))) }

-- one that is parting has nothing to tell
parting-last : (ms more : List Msg) (c : Connection) → is_parting c.phase ≡ true → HasLast ms c → HasLast more c
parting-last ms more c e h = record { early = h.early; last = λ on. let no : false ≡ true = sym (ap not e) ∙ on in absurd (let x : ⊥ = cc in x) }

part-last : (ms : List Msg) (m : Msg) (p : Part) (c : Connection) → part_of m ≡ Some p → is_early c.phase ≡ false → HasLast ms c → HasLast (ms ++ m ∷ []) (with_part p c)
part-last ms m p c is late h = record {
  early = λ e. let no : false ≡ true = sym late ∙ e in absurd (let x : ⊥ = cc in x);
  last = λ on.
      let l = h.last on in
      (l.0, more-part ms m p is ∙ (ap (λ (ps : List Part). ps ++ p ∷ []) l.1 ∙ (append_assoc l.0 (reverse c.parts) (p ∷ []) ∙ ap (λ (ps : List Part). l.0 ++ ps) (sym (reverse-append (p ∷ []) c.parts)))));
}

-- a joined connection that was heard is joined
late-heard : (n : ℕ) (s : State) (j : JoinedScreen) → phase_of s n ≡ Some (Joined j) → (c : Connection) → with_serial n (changed n (was_heard s.at) s.connections) ≡ Some c → is_early c.phase ≡ false
late-heard n s j e c f =
    let w = was-found n n (was_heard s.at) (λ k. refl) s.connections c f in
    ap (λ (k : Connection). is_early k.phase) (w.now ∙ itself n (was_heard s.at) s.connections w.was w.found) ∙ ap (λ (p : Phase). is_early (after_hearing_in p s.at)) (found-phase n s (Joined j) e w.was w.found)

part-sent : (n : ℕ) (bytes : List ℕ) (ms : List Msg) (id : ClipId) (seq : ℕ) (mark : ClipMark) (sent_bytes : List ℕ) (s : State) → On (At n (HasSent bytes ms)) s → On (At n (HasSent bytes (ms ++ msg.ClipPart id seq mark sent_bytes ∷ []))) (hear n (msg.ClipPart id seq mark sent_bytes) s)
part-sent n bytes ms id seq mark sent_bytes s h = part_slow-keeps (sent-kept n bytes more) (hear_in (phase_of s n) m n s) (by (phase_of s n) refl)
  where
    m : Msg
    m = msg.ClipPart id seq mark sent_bytes

    more : List Msg
    more = ms ++ msg.ClipPart id seq mark sent_bytes ∷ []

    by : (o : Option Phase) → phase_of s n ≡ o → On (At n (HasSent bytes (ms ++ msg.ClipPart id seq mark sent_bytes ∷ []))) (hear_in o (msg.ClipPart id seq mark sent_bytes) n s)
    by None e = λ c f. none_some c.phase (sym e ∙ ap (λ (o : Option Connection). option_map (λ (x : Connection). x.phase) o) f)
    by (Some (Greeting a)) e = λ c f. let r = h c f in (r.0, early-last ms (ms ++ msg.ClipPart id seq mark sent_bytes ∷ []) c (ap is_early (found-phase n s (Greeting a) e c f)) r.1)
    by (Some (Asked a)) e = λ c f. let r = h c f in (r.0, early-last ms (ms ++ msg.ClipPart id seq mark sent_bytes ∷ []) c (ap is_early (found-phase n s (Asked a) e c f)) r.1)
    by (Some (Joined j)) e =
        let p : Part = part mark id seq sent_bytes in
        let there : State = change n (was_heard s.at) s in
        let kept : On (At n (HasSent bytes ms)) there = (sent-kept n bytes ms).changed n (was_heard s.at) s.clips s.connections (λ c. refl) (λ c f. heard-quiet s.at c) h in
        hear_part-keeps (sent-kept n bytes (ms ++ msg.ClipPart id seq mark sent_bytes ∷ [])) p n there (λ bs at counts screens c cs g. g)
        (own-changed n (with_part p) (λ c. refl) (HasSent bytes ms) (HasSent bytes (ms ++ msg.ClipPart id seq mark sent_bytes ∷ [])) there.connections (λ c f r. (r.0, part-last ms (msg.ClipPart id seq mark sent_bytes) p c refl (late-heard n s j e c f) r.1)) kept)
    by (Some (Parting a b)) e = λ c f. let r = h c f in (r.0, parting-last ms (ms ++ msg.ClipPart id seq mark sent_bytes ∷ []) c (ap is_parting (found-phase n s (Parting a b) e c f)) r.1)

pub hear-sent : (n : ℕ) (bytes : List ℕ) (ms : List Msg) (m : Msg) (s : State) → On (At n (HasSent bytes ms)) s → On (At n (HasSent bytes (ms ++ m ∷ []))) (hear n m s)
hear-sent n bytes ms (msg.ClipPart id seq mark sent_bytes) s h = part-sent n bytes ms id seq mark sent_bytes s h
hear-sent n bytes ms m s h = plain-sent n bytes ms m s refl h

each-sent : (n : ℕ) (bytes : List ℕ) (ms messages : List Msg) (s : State) → On (At n (HasSent bytes ms)) s → On (At n (HasSent bytes (ms ++ messages))) (for_each messages (hear n) s)
each-sent n bytes ms [] s h = subst (λ (all : List Msg). On (At n (HasSent bytes all)) s) (sym (append-nil ms)) h
each-sent n bytes ms (m ∷ messages) s h =
    subst (λ (all : List Msg). On (At n (HasSent bytes all)) (for_each messages (hear n) (hear n m s))) (append_assoc ms (m ∷ []) messages)
    (each-sent n bytes (ms ++ m ∷ []) messages (hear n m s) (hear-sent n bytes ms m s h))

-- ---- a piece

pub receives-sent : (n : ℕ) (piece : List ℕ) (s : State) → On (At n HasHeard) s → On (At n (HasSent (received_by s n ++ piece) (inbox_of (received_by s n)).messages)) (change n (receives piece) s)
receives-sent n piece s h = own-changed n (receives piece) (λ c. refl) HasHeard (HasSent (received_by s n ++ piece) (inbox_of (received_by s n)).messages) s.connections goes h
  where
    goes : (c : Connection) → with_serial n s.connections ≡ Some c → HasHeard c → HasSent (received_by s n ++ piece) (inbox_of (received_by s n)).messages (receives piece c)
    goes c f r =
        let same : received_by s n ≡ c.received = ap (λ (o : Option Connection). unwrap_or (option_map (λ (x : Connection). x.received) o) []) f in
        let k : HasLast (inbox_of (received_by s n)).messages c = subst (λ (bs : List ℕ). HasLast (inbox_of bs).messages c) (sym same) r in
        (ap (λ (bs : List ℕ). bs ++ piece) (sym same), record { early = k.early; last = k.last })

own-got : (n : ℕ) (piece : List ℕ) (s : State) → On (At n HasHeard) s → On (At n HasHeard) (got n piece s)
own-got n piece s h = when-keeps-if (On (At n HasHeard)) (lives s n) (hear_piece n piece) s (λ e. read) h
  where
    read : On (At n HasHeard) (hear_piece n piece s)
    read c f =
        let bytes : List ℕ = received_by s n in
        let old : List Msg = (inbox_of bytes).messages in
        let added : List Msg = drop (length old) (inbox_of (bytes ++ piece)).messages in
        let there : State = change n (receives piece) s in
        let each = each-sent n (bytes ++ piece) old added there (receives-sent n piece s h) in
        let r = judge-keeps (sent-kept n (bytes ++ piece) (old ++ added)) n (inbox_of (bytes ++ piece)) (for_each added (hear n) there) each c f in
        subst (λ (bs : List ℕ). HasLast (inbox_of bs).messages c) (sym r.0) (subst (λ (ms : List Msg). HasLast ms c) (added-messages bytes piece) r.1)

other-each : (n : ℕ) (R : Connection → Type 0) → Lasts R → (serial : ℕ) → (serial == n) ≡ false → (ms : List Msg) (s : State) → On (At n R) s → On (At n R) (for_each ms (hear serial) s)
other-each n R lasts serial other [] s h = h
other-each n R lasts serial other (m ∷ ms) s h =
    other-each n R lasts serial other ms (hear serial m s) (hear-keeps (at-kept n R lasts) serial m s (λ p j is f g.
    hear_part-keeps (at-kept n R lasts) p serial (change serial (was_heard s.at) s) (λ bs at counts screens c cs k. k) (other-changed n serial (with_part p) (λ c. refl) other R (changed serial (was_heard s.at) s.connections) g)) h)

-- a piece of another connection
pub other-got : (n : ℕ) (R : Connection → Type 0) → Lasts R → (serial : ℕ) → (serial == n) ≡ false → (piece : List ℕ) (s : State) → On (At n R) s → On (At n R) (got serial piece s)
other-got n R lasts serial other piece s h = when-keeps-if (On (At n R)) (lives s serial) (hear_piece serial piece) s (λ e.
    let old : Inbox = inbox_of (received_by s serial) in
    let new : Inbox = inbox_of (received_by s serial ++ piece) in
    let there : State = change serial (receives piece) s in
    let added : List Msg = drop (length old.messages) new.messages in
    judge-keeps (at-kept n R lasts) serial new (for_each added (hear serial) there) (other-each n R lasts serial other added there (other-changed n serial (receives piece) (λ c. refl) other R s.connections h))) h

got-heard : (n serial : ℕ) (piece : List ℕ) (s : State) → On (At n HasHeard) s → On (At n HasHeard) (got serial piece s)
got-heard n serial piece s h = by (serial == n) refl
  where
    by : (b : Bool) → (serial == n) ≡ b → On (At n HasHeard) (got serial piece s)
    by true k =
        let is : serial ≡ n = same_number serial serial n (eq-eqb serial serial refl) k in
        subst (λ (m : ℕ). On (At n HasHeard) (got m piece s)) (sym is) (own-got n piece s h)
    by false k = other-got n HasHeard heard-lasts serial k piece s h

-- ---- every happening

pub no-copies : (n : ℕ) (R : Connection → Type 0) (ran : List RunLine) → AllByRecursion (Copies (At n R)) ran
no-copies n R [] = tt
no-copies n R (r ∷ ran) = (λ id bytes is counts screens c cs h. h, no-copies n R ran)

pub step-heard : (n : ℕ) (s : State) (h : Happening) → On (At n HasHeard) s → On (At n HasHeard) (step s h)
step-heard n s (happening.Joined serial) k =
    let new : On (At n HasHeard) (opened serial s) = found-appended n (fresh serial s.at) HasHeard (λ is. record { early = λ e. refl; last = λ e. ([], refl) }) s.connections k in
    accept-keeps (heard-kept n) serial s new
step-heard n s (happening.Got serial piece) k = got-heard n serial piece s k
step-heard n s (happening.Ended serial) k = breaks-keeps (heard-kept n) cause.Ended serial s k
step-heard n s (happening.Failed serial) k = breaks-keeps (heard-kept n) cause.Failed serial s k
step-heard n s (happening.Took serial count) k = takes-keeps (heard-kept n) serial count s k
step-heard n s (happening.Moment t) k = run_script-keeps (heard-kept n) (after_timers t s) (no-copies n HasHeard (lines_run_now (after_timers t s))) (after_timers-keeps (heard-kept n) t s k)
step-heard n s (happening.Closed serial) k = found-removed n serial HasHeard s.connections k
