-- The messages that arrive are those of all bytes that their connection sent.
use Rattle.std.specs.Prelude.{◌≡◌, refl, ℕ, ◌<◌, ◌≤◌, Bool, true, false, ◌==◌, cond, nat_le, List, [], ◌∷◌, ◌++◌, length, drop, is_some, Option, Some, None, unwrap_or, if◌then◌else◌}
use Rattle.std.specs.List.{AllByRecursion, list_all}
use Rattle.std.specs.Option.{option_map, option_map_or}
use Rattle.std.proofs.Common.{arith, ap, sym, subst, ◌∙◌, append_assoc}
use Rattle.std.proofs.lemmas.Bool.{eq-eqb, eqb-true, and_parts}
use Rattle.std.proofs.lemmas.Bool.Decides.{nat_tests}
use Rattle.std.proofs.lemmas.List.{append-nil}
use Rattle.std.proofs.lemmas.List.Elements.{All-from_recursion, All-contains}
use Rattle.message_codec.specs.declared.messages.Msg.{Msg}
use Rattle.message_codec.specs.Inboxes.{Inbox}
use Rattle.hello_states.specs.declared.part_cause.PartCause.TheVariants as cause
use Rattle.machine.specs.Connections.{Connection, fresh, has_serial, with_serial, changed, is_live}
use Rattle.machine.specs.States.{State}
use Rattle.machine.specs.Combining.{when, for_each}
use Rattle.machine.specs.Screens.{connection, lives, change}
use Rattle.machine.specs.Hearing.{with_part, was_heard, hear}
use Rattle.machine.specs.Timers.{after_timers}
use Rattle.machine.specs.OneForOne.{lines_run_now}
use Rattle.machine.specs.Happenings.{Happening, Joined, Got, Ended, Failed, Took, Moment, Closed, IsOpen, IsAllowed, latest_after}
use Rattle.machine.specs.Runs.{AreAllowed}
use Rattle.machine.specs.Steps.{inbox_of, received_by, receives, hear_piece, got, step}
use Rattle.machine.proofs.Finding.{none_some, some_is, found-passes}
use Rattle.machine.proofs.Invariant.{On as OnView}
use Rattle.machine.proofs.BelowLatest.{BelowLatest, connection_upto}
use Rattle.machine.proofs.Runs.{step-below, start-below}
use Rattle.reached_states.specs.Reaching.{start_of}
use Rattle.clip_origins.specs.Arrivals.{Arrival, each_arrival, piece_arrivals, arrivals_in, arrivals, piece_from, bytes_from, CameWith, ArrivalsCameWithPieces}
use Rattle.clip_origins.proofs.Found.{found-appended, found-removed}
use Rattle.clip_origins.proofs.Keeping.{On, IsKept}
use Rattle.clip_origins.proofs.KeepingScripts.{run_script-keeps, after_timers-keeps}
use Rattle.clip_origins.proofs.KeepingHearing.{hear_part-keeps, hear-keeps, judge-keeps, accept-keeps, breaks-keeps, takes-keeps}
use Rattle.clip_origins.proofs.SentParts.{At, Lasts, at-kept, own-changed, other-got, no-copies}
use Rattle.clip_origins.proofs.Prefixes.{added-messages}

-- ---- one more happening

more-bytes : (n : ℕ) (hs : List Happening) (h : Happening) → bytes_from n (hs ++ h ∷ []) ≡ bytes_from n hs ++ piece_from n h
more-bytes n [] h = append-nil (piece_from n h)
more-bytes n (x ∷ hs) h = ap (λ (bs : List ℕ). piece_from n x ++ bs) (more-bytes n hs h) ∙ sym (append_assoc (piece_from n x) (bytes_from n hs) (piece_from n h))

same-bytes : (n : ℕ) (hs : List Happening) (h : Happening) → piece_from n h ≡ [] → bytes_from n (hs ++ h ∷ []) ≡ bytes_from n hs
same-bytes n hs h e = more-bytes n hs h ∙ (ap (λ (bs : List ℕ). bytes_from n hs ++ bs) e ∙ append-nil (bytes_from n hs))

own-bytes : (n : ℕ) (hs : List Happening) (piece : List ℕ) → bytes_from n (hs ++ Got n piece ∷ []) ≡ bytes_from n hs ++ piece
own-bytes n hs piece = more-bytes n hs (Got n piece) ∙ ap (λ (b : Bool). bytes_from n hs ++ (if b then piece else [])) (eq-eqb n n refl)

other-piece : (n serial : ℕ) (piece : List ℕ) → (serial == n) ≡ false → piece_from n (Got serial piece) ≡ []
other-piece n serial piece e = ap (λ (b : Bool). if b then piece else []) e

-- ---- what a live connection sent

abbrev HasBytes : ℕ → List Happening → Connection → Type 0
HasBytes n hs c = is_live c ≡ true → c.received ≡ bytes_from n hs

bytes-last : (n : ℕ) (hs : List Happening) → Lasts (HasBytes n hs)
bytes-last n hs c d q h on = q.received ∙ h (q.live on)

bytes-kept : (n : ℕ) (hs : List Happening) → IsKept (At n (HasBytes n hs))
bytes-kept n hs = at-kept n (HasBytes n hs) (bytes-last n hs)

own-each : (n : ℕ) (hs : List Happening) (ms : List Msg) (s : State) → On (At n (HasBytes n hs)) s → On (At n (HasBytes n hs)) (for_each ms (hear n) s)
own-each n hs [] s h = h
own-each n hs (m ∷ ms) s h =
    own-each n hs ms (hear n m s) (hear-keeps (bytes-kept n hs) n m s (λ p j is f g.
    hear_part-keeps (bytes-kept n hs) p n (change n (was_heard s.at) s) (λ bs at counts screens c cs k. k) (own-changed n (with_part p) (λ c. refl) (HasBytes n hs) (HasBytes n hs) (changed n (was_heard s.at) s.connections) (λ c e r. r) g)) h)

own-got : (n : ℕ) (hs : List Happening) (piece : List ℕ) (s : State) → On (At n (HasBytes n hs)) s → On (At n (HasBytes n (hs ++ Got n piece ∷ []))) (got n piece s)
own-got n hs piece s h = by (lives s n) refl
  where
    by : (b : Bool) → lives s n ≡ b → On (At n (HasBytes n (hs ++ Got n piece ∷ []))) (when b (hear_piece n piece) s)
    by true e =
        let old : Inbox = inbox_of (received_by s n) in
        let new : Inbox = inbox_of (received_by s n ++ piece) in
        let there : State = change n (receives piece) s in
        let added : List Msg = drop (length old.messages) new.messages in
        let came : On (At n (HasBytes n (hs ++ Got n piece ∷ []))) there = own-changed n (receives piece) (λ c. refl) (HasBytes n hs) (HasBytes n (hs ++ Got n piece ∷ [])) s.connections (λ c f r on. ap (λ (bs : List ℕ). bs ++ piece) (r on) ∙ sym (own-bytes n hs piece)) h in
        judge-keeps (bytes-kept n (hs ++ Got n piece ∷ [])) n new (for_each added (hear n) there) (own-each n (hs ++ Got n piece ∷ []) added there came)
    by false e = λ c f on.
        let off : is_live c ≡ false = sym (ap (λ (o : Option Connection). option_map_or is_live o false) f) ∙ e in
        let no : false ≡ true = sym off ∙ on in
        absurd (let x : ⊥ = cc in x)

-- ---- serials above the latest one sent nothing

abbrev NothingAbove : ℕ → List Happening → Type 0
NothingAbove latest hs = (n : ℕ) → latest < n → bytes_from n hs ≡ []

all-found : (good : Connection → Bool) (n : ℕ) (cs : List Connection) → list_all good cs ≡ true → (c : Connection) → with_serial n cs ≡ Some c → good c ≡ true
all-found good n [] h c e = none_some c e
all-found good n (d ∷ cs) h c e = let b = and_parts (good d) (list_all good cs) h in by (has_serial n d) b.0 (all-found good n cs b.1) e
  where
    by : (t : Bool) → good d ≡ true → ((k : Connection) → with_serial n cs ≡ Some k → good k ≡ true) → cond t (Some d) (with_serial n cs) ≡ Some c → good c ≡ true
    by true here later e = subst (λ (k : Connection). good k ≡ true) (some_is d c e) here
    by false here later e = later c e

open-upto : (latest n : ℕ) (s : State) → OnView (BelowLatest latest) s → IsOpen s n → n ≤ latest
open-upto latest n s below on = by (connection s n) refl on
  where
    by : (o : Option Connection) → connection s n ≡ o → is_some o ≡ true → n ≤ latest
    by None e k = absurd (let x : ⊥ = cc in x)
    by (Some c) e k =
        let is : c.serial ≡ n = eqb-true c.serial n (found-passes (has_serial n) s.connections c e) in
        let upto : nat_le c.serial latest ≡ true = all-found (connection_upto latest) n s.connections below.connections c e in
        subst (λ (m : ℕ). m ≤ latest) is (grind (arith, nat_tests, upto))

apart : (latest n serial : ℕ) → serial ≤ latest → latest < n → (serial == n) ≡ false
apart latest n serial a b = grind (arith, nat_tests, a, b)

step-above : (latest : ℕ) (hs : List Happening) (s : State) (h : Happening) → IsAllowed latest s h → OnView (BelowLatest latest) s → NothingAbove latest hs → NothingAbove (latest_after latest h) (hs ++ h ∷ [])
step-above latest hs s (Joined serial) a below k n l = same-bytes n hs (Joined serial) refl ∙ k n (omega arith)
step-above latest hs s (Got serial piece) a below k n l = same-bytes n hs (Got serial piece) (other-piece n serial piece (apart latest n serial (open-upto latest serial s below a) l)) ∙ k n l
step-above latest hs s (Ended serial) a below k n l = same-bytes n hs (Ended serial) refl ∙ k n l
step-above latest hs s (Failed serial) a below k n l = same-bytes n hs (Failed serial) refl ∙ k n l
step-above latest hs s (Took serial count) a below k n l = same-bytes n hs (Took serial count) refl ∙ k n l
step-above latest hs s (Moment t) a below k n l = same-bytes n hs (Moment t) refl ∙ k n l
step-above latest hs s (Closed serial) a below k n l = same-bytes n hs (Closed serial) refl ∙ k n l

-- ---- every happening

more-happened : (n : ℕ) (hs : List Happening) (h : Happening) (t : State) → piece_from n h ≡ [] → On (At n (HasBytes n hs)) t → On (At n (HasBytes n (hs ++ h ∷ []))) t
more-happened n hs h t e k c f on = k c f on ∙ sym (same-bytes n hs h e)

step-bytes : (latest n : ℕ) (hs : List Happening) (s : State) (h : Happening) → IsAllowed latest s h → NothingAbove latest hs → On (At n (HasBytes n hs)) s → On (At n (HasBytes n (hs ++ h ∷ []))) (step s h)
step-bytes latest n hs s (Joined serial) a above k =
    let new : has_serial n (fresh serial s.at) ≡ true → HasBytes n hs (fresh serial s.at) = λ is on. sym (above n (subst (λ (m : ℕ). latest < m) (eqb-true serial n is) a)) in
    more-happened n hs (Joined serial) (step s (Joined serial)) refl (accept-keeps (bytes-kept n hs) serial s (found-appended n (fresh serial s.at) (HasBytes n hs) new s.connections k))
step-bytes latest n hs s (Got serial piece) a above k = by (serial == n) refl
  where
    by : (b : Bool) → (serial == n) ≡ b → On (At n (HasBytes n (hs ++ Got serial piece ∷ []))) (got serial piece s)
    by true e = subst (λ (m : ℕ). On (At n (HasBytes n (hs ++ Got m piece ∷ []))) (got m piece s)) (sym (eqb-true serial n e)) (own-got n hs piece s k)
    by false e = more-happened n hs (Got serial piece) (got serial piece s) (other-piece n serial piece e) (other-got n (HasBytes n hs) (bytes-last n hs) serial e piece s k)
step-bytes latest n hs s (Ended serial) a above k = more-happened n hs (Ended serial) (step s (Ended serial)) refl (breaks-keeps (bytes-kept n hs) cause.Ended serial s k)
step-bytes latest n hs s (Failed serial) a above k = more-happened n hs (Failed serial) (step s (Failed serial)) refl (breaks-keeps (bytes-kept n hs) cause.Failed serial s k)
step-bytes latest n hs s (Took serial count) a above k = more-happened n hs (Took serial count) (step s (Took serial count)) refl (takes-keeps (bytes-kept n hs) serial count s k)
step-bytes latest n hs s (Moment t) a above k = more-happened n hs (Moment t) (step s (Moment t)) refl (run_script-keeps (bytes-kept n hs) (after_timers t s) (no-copies n (HasBytes n hs) (lines_run_now (after_timers t s))) (after_timers-keeps (bytes-kept n hs) t s k))
step-bytes latest n hs s (Closed serial) a above k = more-happened n hs (Closed serial) (step s (Closed serial)) refl (found-removed n serial (HasBytes n hs) s.connections k)

-- ---- the messages that arrive

record IsFrom (n : ℕ) (messages : List Msg) (a : Arrival) : Type 0 where
  serial : a.serial ≡ n
  later : List Msg
  all : messages ≡ a.earlier ++ a.message ∷ later

each-from : (n : ℕ) (ms messages : List Msg) (s : State) → AllByRecursion (IsFrom n (ms ++ messages)) (each_arrival n ms messages s)
each-from n ms [] s = tt
each-from n ms (m ∷ messages) s = (
  record { serial = refl; later = messages; all = refl },
  subst (λ (all : List Msg). AllByRecursion (IsFrom n all) (each_arrival n (ms ++ m ∷ []) messages (hear n m s))) (append_assoc ms (m ∷ []) messages) (each-from n (ms ++ m ∷ []) messages (hear n m s)),
)

all-weaker : {A : Type 0} (P Q : A → Type 0) → ((x : A) → P x → Q x) → (xs : List A) → AllByRecursion P xs → AllByRecursion Q xs
all-weaker P Q goes [] h = tt
all-weaker P Q goes (x ∷ xs) h = (goes x h.0, all-weaker P Q goes xs h.1)

all-join : {A : Type 0} (P : A → Type 0) (xs ys : List A) → AllByRecursion P xs → AllByRecursion P ys → AllByRecursion P (xs ++ ys)
all-join P [] ys h k = k
all-join P (x ∷ xs) ys h k = (h.0, all-join P xs ys h.1 k)

piece-came : (all before after : List Happening) (n : ℕ) (piece : List ℕ) (s : State) → all ≡ before ++ Got n piece ∷ after → received_by s n ≡ bytes_from n before → AllByRecursion (CameWith all) (piece_arrivals n piece s)
piece-came all before after n piece s is same =
    let bytes : List ℕ = received_by s n in
    let old : List Msg = (inbox_of bytes).messages in
    let new : List Msg = (inbox_of (bytes ++ piece)).messages in
    let came : (inbox_of (bytes_from n (before ++ Got n piece ∷ []))).messages ≡ old ++ drop (length old) new = ap (λ (bs : List ℕ). (inbox_of bs).messages) (own-bytes n before piece ∙ ap (λ (bs : List ℕ). bs ++ piece) (sym same)) ∙ sym (added-messages bytes piece) in
    all-weaker (IsFrom n (old ++ drop (length old) new)) (CameWith all) (λ a f. record {
      before = before;
      piece = piece;
      after = after;
      happened = is ∙ ap (λ (m : ℕ). before ++ Got m piece ∷ after) (sym f.serial);
      later = f.later;
      messages = ap (λ (m : ℕ). (inbox_of (bytes_from m (before ++ Got m piece ∷ []))).messages) f.serial ∙ (came ∙ f.all);
    }) (each_arrival n old (drop (length old) new) (change n (receives piece) s)) (each-from n old (drop (length old) new) (change n (receives piece) s))

live-bytes : (n : ℕ) (hs : List Happening) (s : State) → lives s n ≡ true → On (At n (HasBytes n hs)) s → received_by s n ≡ bytes_from n hs
live-bytes n hs s on k = by (connection s n) refl on
  where
    by : (o : Option Connection) → connection s n ≡ o → option_map_or is_live o false ≡ true → received_by s n ≡ bytes_from n hs
    by None e l = absurd (let x : ⊥ = cc in x)
    by (Some c) e l = ap (λ (o : Option Connection). unwrap_or (option_map (λ (x : Connection). x.received) o) []) e ∙ k c e l

in-came : (all before after : List Happening) (s : State) (h : Happening) → all ≡ before ++ h ∷ after → ((n : ℕ) → On (At n (HasBytes n before)) s) → AllByRecursion (CameWith all) (arrivals_in s h)
in-came all before after s (Joined serial) is k = tt
in-came all before after s (Got serial piece) is k = by (lives s serial) refl
  where
    by : (b : Bool) → lives s serial ≡ b → AllByRecursion (CameWith all) (if b then piece_arrivals serial piece s else [])
    by true e = piece-came all before after serial piece s is (live-bytes serial before s e (k serial))
    by false e = tt
in-came all before after s (Ended serial) is k = tt
in-came all before after s (Failed serial) is k = tt
in-came all before after s (Took serial count) is k = tt
in-came all before after s (Moment t) is k = tt
in-came all before after s (Closed serial) is k = tt

run-came : (all before hs : List Happening) (latest : ℕ) (s : State) → all ≡ before ++ hs → AreAllowed latest s hs → OnView (BelowLatest latest) s → NothingAbove latest before → ((n : ℕ) → On (At n (HasBytes n before)) s) → AllByRecursion (CameWith all) (arrivals hs s)
run-came all before [] latest s is a below above k = tt
run-came all before (h ∷ hs) latest s is a below above k =
    all-join (CameWith all) (arrivals_in s h) (arrivals hs (step s h)) (in-came all before hs s h is k)
    (run-came all (before ++ h ∷ []) hs (latest_after latest h) (step s h) (is ∙ sym (append_assoc before (h ∷ []) hs)) a.1 (step-below latest s h a.0 below) (step-above latest before s h a.0 below above)
    (λ n. step-bytes latest n before s h a.0 above (k n)))

pub arrivals-came-with-pieces : ArrivalsCameWithPieces
arrivals-came-with-pieces o hs latest s by a there =
    let all : AllByRecursion (CameWith hs) (arrivals hs (start_of o)) = run-came hs [] hs 0 (start_of o) refl by.allowed (start-below o.config o.script o.now) (λ n l. refl) (λ n c f. none_some c f) in
    All-contains (CameWith hs) (arrivals hs (start_of o)) a (All-from_recursion (CameWith hs) (arrivals hs (start_of o)) all) there
