-- Known bytes were copied by the script or sent by their owner.
use Rattle.std.specs.Prelude.{◌≡◌, refl, ℕ, ◌≤◌, Bool, true, false, not, ◌&&◌, ◌==◌, nat_le, List, [], ◌∷◌, ◌++◌, length, drop, Option, Some, None, unwrap_or, if◌then◌else◌, Contains}
use Rattle.std.specs.List.{AllByRecursion}
use Rattle.std.specs.Option.{option_map, option_and_then}
use Rattle.std.proofs.Common.{arith, ap, sym, subst, ◌∙◌, inl, inr}
use Rattle.std.proofs.lemmas.Bool.{eqb-true, and_parts}
use Rattle.std.proofs.lemmas.Bool.Decides.{nat_tests}
use Rattle.std.proofs.lemmas.List.Elements.{recursion_from_All, All-weaker, All-contains_itself}
use Rattle.share_base.specs.declared.clip_id.ClipId.{ClipId}
use Rattle.share_base.specs.declared.clip_id.ClipId.TheVariants.{Clipboard, Selection}
use Rattle.message_codec.specs.declared.messages.Msg.{Msg}
use Rattle.message_codec.specs.Inboxes.{Inbox}
use Rattle.hello_states.specs.declared.part_cause.PartCause.TheVariants as cause
use Rattle.hello_states.specs.Phases.{Phase, Joined, JoinedScreen, is_parting, joined_screen, after_hearing_in}
use Rattle.clip_chunks.specs.Parts.{Part, part_of}
use Rattle.clip_chunks.specs.OpenRuns.{whole_at, wholes_among}
use Rattle.clip_chunks.specs.Clips.{Clip, Clips, clip_of, with_clip}
use Rattle.clip_chunks.specs.Rules as rules
use Rattle.machine.specs.Targets.{Client}
use Rattle.machine.specs.Connections.{Connection, is_live}
use Rattle.machine.specs.States.{State}
use Rattle.machine.specs.Combining.{when, for_each}
use Rattle.machine.specs.Screens.{connection, phase_of, lives, change, screen_of, screen_in}
use Rattle.machine.specs.Clipboards.{clip, is_sharing, clip_limit}
use Rattle.machine.specs.Partings.{screen_joined}
use Rattle.machine.specs.Hearing.{with_part, parts_from, was_heard, hear, hear_part}
use Rattle.machine.specs.Timers.{after_timers}
use Rattle.machine.specs.OneForOne.{lines_run_in, lines_run}
use Rattle.machine.specs.Happenings as happening
use Rattle.machine.specs.Happenings.{Happening}
use Rattle.machine.specs.Steps.{inbox_of, received_by, receives, hear_piece, step, run}
use Rattle.machine.proofs.Finding.{none_some, some_is}
use Rattle.reached_states.specs.Reaching.{start_of}
use Rattle.clip_origins.specs.Arrivals.{Arrival, each_arrival, piece_arrivals, arrivals_in, arrivals}
use Rattle.clip_origins.specs.Sources.{HaveSource, KnownHaveSources}
use Rattle.clip_origins.proofs.Found.{found-itself}
use Rattle.clip_origins.proofs.Keeping.{Clipped, On, IsKept, Knows}
use Rattle.clip_origins.proofs.KeepingScripts.{Copies, run_script-keeps, after_timers-keeps}
use Rattle.clip_origins.proofs.KeepingHearing.{found-phase, hear_part-keeps, hear-keeps, judge-keeps, accept-keeps, breaks-keeps, takes-keeps}
use Rattle.clip_origins.proofs.LongerRuns.{one-more-whole}
use Rattle.clip_origins.proofs.SentParts.{At, HasSent, HasHeard, hear-sent, receives-sent, step-heard}

-- ---- bytes that are known by a source

abbrev Source : Type 1
Source = ClipId → ℕ → List ℕ → Type 0

abbrev IsKnownBy : (ℕ → List ℕ → Type 0) → Clip → Type 0
IsKnownBy q c = (bytes : List ℕ) → c.bytes ≡ Some bytes → q c.seq bytes

abbrev Known : Source → Clipped
Known Q c cs = (id : ClipId) → IsKnownBy (Q id) (clip_of id c)

same-known : (q : ℕ → List ℕ → Type 0) (was now : Clip) → now.bytes ≡ was.bytes → now.seq ≡ was.seq → IsKnownBy q was → IsKnownBy q now
same-known q was now bytes seq h given e = subst (λ (n : ℕ). q n given) (sym seq) (h given (sym bytes ∙ e))

put-known : (Q : Source) (id : ClipId) (new : Clip) (c : Clips) → IsKnownBy (Q id) new → ((other : ClipId) → IsKnownBy (Q other) (clip_of other c)) → (other : ClipId) → IsKnownBy (Q other) (clip_of other (with_clip id new c))
put-known Q Clipboard new c k h Clipboard = k
put-known Q Clipboard new c k h Selection = h Selection
put-known Q Selection new c k h Clipboard = h Clipboard
put-known Q Selection new c k h Selection = k

joined-known : (q : ℕ → List ℕ → Type 0) (screen : ℕ) (c : Clip) → IsKnownBy q c → IsKnownBy q (rules.joined screen c)
joined-known q screen c h = by c.bytes
  where
    by : (o : Option (List ℕ)) → IsKnownBy q (rules.dirtied screen o c)
    by None = h
    by (Some bytes) = h

left-known : (q : ℕ → List ℕ → Type 0) (primary screen : ℕ) (c : Clip) → IsKnownBy q c → IsKnownBy q (rules.left primary screen c)
left-known q primary screen c h = by (c.owner == screen)
  where
    by : (b : Bool) → IsKnownBy q (if b then record c { owner = primary } else c)
    by true = h
    by false = h

known-kept : (Q : Source) → IsKept (Known Q)
known-kept Q = record {
  entered = λ id screen c cs h. put-known Q id (rules.entered screen (clip_of id c)) c (h id) h;
  unknown = λ id owner seq c cs h. put-known Q id (rules.unknown owner seq) c (λ bytes e. none_some bytes e) h;
  joined = λ screen c cs h. both (rules.joined screen c.clipboard) (rules.joined screen c.selection) (joined-known (Q Clipboard) screen c.clipboard (h Clipboard)) (joined-known (Q Selection) screen c.selection (h Selection));
  left = λ primary screen c cs h. both (rules.left primary screen c.clipboard) (rules.left primary screen c.selection) (left-known (Q Clipboard) primary screen c.clipboard (h Clipboard)) (left-known (Q Selection) primary screen c.selection (h Selection));
  changed = λ serial f c cs same quiet h. h;
}
  where
    both : (one other : Clip) → IsKnownBy (Q Clipboard) one → IsKnownBy (Q Selection) other → (id : ClipId) → IsKnownBy (Q id) (clip_of id (record { clipboard = one; selection = other }))
    both one other a b Clipboard = a
    both one other a b Selection = b

knows : (Q : Source) (id : ClipId) (owner seq : ℕ) (bytes : List ℕ) → Q id seq bytes → Knows (Known Q) id owner seq bytes
knows Q id owner seq bytes q screens c cs h = put-known Q id (rules.known owner seq bytes screens) c (λ given e. subst (Q id seq) (some_is bytes given e) q) h

-- ---- messages

-- where its owner sent one whole more with it, that is a source
abbrev Tells : Source → Arrival → Type 0
Tells Q a =
    (id : ClipId) (seq : ℕ) (bytes : List ℕ) → screen_joined a.state a.serial ≡ Some (clip a.state id).owner
    → wholes_among (clip_limit a.state) (a.earlier ++ a.message ∷ []) ≡ wholes_among (clip_limit a.state) a.earlier ++ record { clip = id; seq = seq; bytes = bytes } ∷ []
    → ((clip a.state id).seq ≤ seq) × (seq ≤ a.state.sequence) → is_sharing a.state ≡ true → Q id seq bytes

at-most : (m n : ℕ) → nat_le m n ≡ true → m ≤ n
at-most m n e = grind (arith, nat_tests, e)

hear-known : (Q : Source) (n : ℕ) (bytes : List ℕ) (ms : List Msg) (m : Msg) (s : State) → Tells Q (record { serial = n; earlier = ms; message = m; state = s }) → On (At n (HasSent bytes ms)) s → On (Known Q) s → On (Known Q) (hear n m s)
hear-known Q n bytes ms m s tells sent h = hear-keeps (known-kept Q) n m s hears h
  where
    hears : (p : Part) (j : JoinedScreen) → part_of m ≡ Some p → phase_of s n ≡ Some (Joined j) → On (Known Q) s → On (Known Q) (hear_part p n (change n (was_heard s.at) s))
    hears p j is phase g = hear_part-keeps (known-kept Q) p n (change n (was_heard s.at) s) (λ given at counts. knows Q p.clip (screen_of (change n (with_part p) (change n (was_heard s.at) s)) (Client n)) p.seq given (by given at counts (connection s n) refl)) g
      where
        by : (given : List ℕ) → whole_at (clip_limit s) p (parts_from (change n (was_heard s.at) s) n) ≡ Some given
            → (is_sharing s && rules.whole_counts (screen_of (change n (with_part p) (change n (was_heard s.at) s)) (Client n)) p.seq s.sequence (clip s p.clip)) ≡ true
            → (o : Option Connection) → connection s n ≡ o → Q p.clip p.seq given
        by given at counts None f = none_some (Joined j) (sym (ap (λ (o : Option Connection). option_map (λ (x : Connection). x.phase) o) f) ∙ phase)
        by given at counts (Some c) f =
            let there : State = change n (was_heard s.at) s in
            let after : State = change n (with_part p) there in
            let joined : c.phase ≡ Joined j = found-phase n s (Joined j) phase c f in
            let heard : connection there n ≡ Some (was_heard s.at c) = found-itself n (was_heard s.at) (λ k. refl) s.connections c f in
            let added : connection after n ≡ Some (with_part p (was_heard s.at c)) = found-itself n (with_part p) (λ k. refl) there.connections (was_heard s.at c) heard in
            let kept : parts_from there n ≡ c.parts = ap (λ (o : Option Connection). unwrap_or (option_map (λ (x : Connection). x.parts) o) []) heard in
            let lives : is_live c ≡ true = ap (λ (x : Phase). not (is_parting x)) joined in
            let last = (sent c f).1.last lives in
            let shares = and_parts (is_sharing s) (rules.whole_counts (screen_of after (Client n)) p.seq s.sequence (clip s p.clip)) counts in
            let upto = and_parts ((clip s p.clip).owner == screen_of after (Client n) && nat_le (clip s p.clip).seq p.seq) (nat_le p.seq s.sequence) shares.1 in
            let from = and_parts ((clip s p.clip).owner == screen_of after (Client n)) (nat_le (clip s p.clip).seq p.seq) upto.0 in
            let owner : (clip s p.clip).owner ≡ screen_of after (Client n) = eqb-true (clip s p.clip).owner (screen_of after (Client n)) from.0 in
            let screen : screen_of after (Client n) ≡ j.screen = ap (λ (o : Option Connection). unwrap_or (option_and_then screen_in o) s.primary) added ∙ ap (λ (x : Phase). unwrap_or (joined_screen (after_hearing_in x s.at)) s.primary) joined in
            tells p.clip p.seq given
            (ap (λ (o : Option Connection). option_and_then screen_in o) f ∙ (ap joined_screen joined ∙ ap Some (sym (owner ∙ screen))))
            (one-more-whole (clip_limit s) given m p ms last.0 c.parts is last.1 (ap (whole_at (clip_limit s) p) (sym kept) ∙ at)) (at-most (clip s p.clip).seq p.seq from.1, at-most p.seq s.sequence upto.1) shares.0

each-known : (Q : Source) (n : ℕ) (bytes : List ℕ) (ms messages : List Msg) (s : State) → AllByRecursion (Tells Q) (each_arrival n ms messages s) → On (At n (HasSent bytes ms)) s → On (Known Q) s → On (Known Q) (for_each messages (hear n) s)
each-known Q n bytes ms [] s all sent h = h
each-known Q n bytes ms (m ∷ messages) s all sent h = each-known Q n bytes (ms ++ m ∷ []) messages (hear n m s) all.1 (hear-sent n bytes ms m s sent) (hear-known Q n bytes ms m s all.0 sent h)

-- ---- happenings

abbrev AllHeard : State → Type 0
AllHeard s = (n : ℕ) → On (At n HasHeard) s

got-known : (Q : Source) (n : ℕ) (piece : List ℕ) (s : State) (b : Bool) → AllByRecursion (Tells Q) (if b then piece_arrivals n piece s else []) → On (At n HasHeard) s → On (Known Q) s → On (Known Q) (when b (hear_piece n piece) s)
got-known Q n piece s true all heard h =
    let bytes : List ℕ = received_by s n in
    let old : Inbox = inbox_of bytes in
    let new : Inbox = inbox_of (bytes ++ piece) in
    let there : State = change n (receives piece) s in
    let added : List Msg = drop (length old.messages) new.messages in
    judge-keeps (known-kept Q) n new (for_each added (hear n) there) (each-known Q n (bytes ++ piece) old.messages added there all (receives-sent n piece s heard) h)
got-known Q n piece s false all heard h = h

step-known : (Q : Source) (s : State) (h : Happening) → AllByRecursion (Copies (Known Q)) (lines_run_in s h) → AllByRecursion (Tells Q) (arrivals_in s h) → AllHeard s → On (Known Q) s → On (Known Q) (step s h)
step-known Q s (happening.Joined serial) ran came heard k = accept-keeps (known-kept Q) serial s k
step-known Q s (happening.Got serial piece) ran came heard k = got-known Q serial piece s (lives s serial) came (heard serial) k
step-known Q s (happening.Ended serial) ran came heard k = breaks-keeps (known-kept Q) cause.Ended serial s k
step-known Q s (happening.Failed serial) ran came heard k = breaks-keeps (known-kept Q) cause.Failed serial s k
step-known Q s (happening.Took serial count) ran came heard k = takes-keeps (known-kept Q) serial count s k
step-known Q s (happening.Moment t) ran came heard k = run_script-keeps (known-kept Q) (after_timers t s) ran (after_timers-keeps (known-kept Q) t s k)
step-known Q s (happening.Closed serial) ran came heard k = k

all-first : {A : Type 0} (P : A → Type 0) (xs ys : List A) → AllByRecursion P (xs ++ ys) → AllByRecursion P xs
all-first P [] ys h = tt
all-first P (x ∷ xs) ys h = (h.0, all-first P xs ys h.1)

all-last : {A : Type 0} (P : A → Type 0) (xs ys : List A) → AllByRecursion P (xs ++ ys) → AllByRecursion P ys
all-last P [] ys h = h
all-last P (x ∷ xs) ys h = all-last P xs ys h.1

run-known : (Q : Source) (hs : List Happening) (s : State) → AllByRecursion (Copies (Known Q)) (lines_run hs s) → AllByRecursion (Tells Q) (arrivals hs s) → AllHeard s → On (Known Q) s → On (Known Q) (run hs s)
run-known Q [] s ran came heard k = k
run-known Q (h ∷ hs) s ran came heard k =
    run-known Q hs (step s h) (all-last (Copies (Known Q)) (lines_run_in s h) (lines_run hs (step s h)) ran) (all-last (Tells Q) (arrivals_in s h) (arrivals hs (step s h)) came) (λ n. step-heard n s h (heard n))
    (step-known Q s h (all-first (Copies (Known Q)) (lines_run_in s h) (lines_run hs (step s h)) ran) (all-first (Tells Q) (arrivals_in s h) (arrivals hs (step s h)) came) heard k)

-- ---- the law

all-members : {A : Type 0} (P : A → Type 0) (xs : List A) → ((x : A) → Contains xs x → P x) → AllByRecursion P xs
all-members P xs goes = recursion_from_All P xs (All-weaker (Contains xs) P goes xs (All-contains_itself xs))

none-known : (Q : Source) (primary : ℕ) (id : ClipId) → IsKnownBy (Q id) (clip_of id (rules.first_clips primary))
none-known Q primary Clipboard bytes e = none_some bytes e
none-known Q primary Selection bytes e = none_some bytes e

pub known-have-sources : KnownHaveSources
known-have-sources o hs latest s by id bytes e =
    let first : State = start_of o in
    let ran = all-members (Copies (Known (HaveSource o hs))) (lines_run hs first) (λ r there copied given is counts. knows (HaveSource o hs) copied r.state.primary r.state.sequence given (inl (record { run = r; among = there; line = is; sequence = refl; counts = counts }))) in
    let came = all-members (Tells (HaveSource o hs)) (arrivals hs first) (λ a there sent seq given owner whole sequence shared. inr (record { last = a; among = there; owner = owner; whole = whole; sequence = sequence; shared = shared })) in
    let all = run-known (HaveSource o hs) hs first ran came (λ n c f. none_some c f) (none-known (HaveSource o hs) o.script.primary) in
    subst (λ (t : State). On (Known (HaveSource o hs)) t) (sym by.state) all id bytes e
