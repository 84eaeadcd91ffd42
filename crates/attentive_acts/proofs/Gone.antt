-- An invariant: each connection of a serial is parting with its bytes dropped.
use Rattle.std.specs.Prelude.{◌≡◌, refl, ℕ, ◌<◌, ◌≤◌, Bool, true, false, not, ◌&&◌, ◌||◌, ◌==◌, cond, List, [], ◌∷◌, Some}
use Rattle.std.specs.List.{list_all, list_any}
use Rattle.std.specs.Option.{option_map_or}
use Rattle.std.proofs.Common.{arith, ap, sym, subst, ◌∙◌}
use Rattle.std.proofs.lemmas.Bool.{and_parts, and_from}
use Rattle.std.proofs.lemmas.Bool.Decides.{nat_tests}
use Rattle.share_base.proofs.ListTests.{all_append}
use Rattle.hello_states.specs.Phases.{Phase, is_parting}
use Rattle.hello_states.specs.declared.part_cause.PartCause.{PartCause}
use Rattle.hello_states.specs.declared.part_cause.PartCause.TheVariants as cause
use Rattle.machine.specs.Connections.{Connection, fresh, has_serial, with_serial, is_live, changed, changed_at, serials}
use Rattle.machine.specs.States.{State}
use Rattle.machine.specs.Combining.{when, choose, unchanged}
use Rattle.machine.specs.Screens.{lives, change}
use Rattle.machine.specs.Partings.{parted, marked, lose, screen_joined, part}
use Rattle.machine.specs.Happenings.{Happening, Joined, Got, Ended, Failed, Took, Moment, Closed}
use Rattle.machine.specs.Steps.{drops, takes, breaks, step}
use Rattle.machine.proofs.Rules.{choose-keeps, for_some-keeps}
use Rattle.machine.proofs.Live.{lives_as, IsTame, PartsNone}
use Rattle.machine.proofs.Invariant.{View, On, IsInvariant}
use Rattle.machine.proofs.AnyButton.{any, any_origin, of-connections}
use Rattle.machine.proofs.KeepPartings.{marked-off, lose-keeps, part_slow-keeps}
use Rattle.machine.proofs.KeepSteps.{takes-tame, got-keeps, breaks-keeps, close-keeps, moment-keeps}
use Rattle.machine.proofs.Runs.{accept-keeps}
use Rattle.reached_states.specs.OpenSerials.{Rise}
use Rattle.reached_states.proofs.EachConnection.{all-fewer}
use Rattle.reached_states.proofs.Rising.{above-same}
use Rattle.reached_states.proofs.Dropped.{is_apart}

abbrev pub is_gone : Connection → Bool
is_gone k = k.is_dropped && not (is_live k)

abbrev pub gone_if : ℕ → Connection → Bool
gone_if c k = not (has_serial c k) || is_gone k

abbrev pub Gone : ℕ → View → Type 0
Gone c v = list_all (gone_if c) v.connections ≡ true

abbrev pub HasGone : ℕ → State → Type 0
HasGone c s = On (Gone c) s

-- ---- what keeps it

each_gone : (c serial : ℕ) (f : Connection → Connection) → ((k : Connection) → has_serial serial k ≡ true → gone_if c k ≡ true → gone_if c (f k) ≡ true) → (cs : List Connection) → list_all (gone_if c) cs ≡ true → list_all (gone_if c) (changed serial f cs) ≡ true
each_gone c serial f keeps [] h = refl
each_gone c serial f keeps (k ∷ cs) h =
    let parts = and_parts (gone_if c k) (list_all (gone_if c) cs) h in
    and_from (gone_if c (changed_at serial f k)) (list_all (gone_if c) (changed serial f cs)) (at (has_serial serial k) refl parts.0) (each_gone c serial f keeps cs parts.1)
  where
    at : (b : Bool) → has_serial serial k ≡ b → gone_if c k ≡ true → gone_if c (when b f k) ≡ true
    at true e g = keeps k e g
    at false e g = g

gone_parts : (b d on : Bool) → (not b || (d && not on)) ≡ true → b ≡ true → (d ≡ true) × (on ≡ false)
gone_parts true true true h e = absurd cc
gone_parts true true false h e = (refl, refl)
gone_parts true false on h e = absurd cc
gone_parts false d on h e = absurd cc

gone_from : (b d on : Bool) → (b ≡ true → (d ≡ true) × (on ≡ false)) → (not b || (d && not on)) ≡ true
gone_from false d on h = refl
gone_from true d on h = let both = h refl in let one = both.0 in let two = both.1 in rw (one, two) refl

kept_gone : (c : ℕ) (f : Connection → Connection) → IsTame f → PartsNone f → (k : Connection) → gone_if c k ≡ true → gone_if c (f k) ≡ true
kept_gone c f tame none k h = gone_from (has_serial c (f k)) (f k).is_dropped (is_live (f k)) (λ e.
    let mine : has_serial c k ≡ true = ap (λ (n : ℕ). n == c) (sym (tame k).0) ∙ e in
    let was = gone_parts (has_serial c k) k.is_dropped (is_live k) h mine in
    ((none k).0 ∙ was.0, ap (λ (p : Phase). not (is_parting p)) ((none k).2 was.1) ∙ was.1))

dropped_gone : (c : ℕ) (k : Connection) → gone_if c k ≡ true → gone_if c (drops k) ≡ true
dropped_gone c k h = gone_from (has_serial c k) true (is_live k) (λ e. (refl, (gone_parts (has_serial c k) k.is_dropped (is_live k) h e).1))

-- nobody of that serial lives
none_lives : (c : ℕ) (cs : List Connection) → list_all (gone_if c) cs ≡ true → list_any (lives_as c) cs ≡ false
none_lives c [] h = refl
none_lives c (k ∷ cs) h =
    let parts = and_parts (gone_if c k) (list_all (gone_if c) cs) h in
    at (has_serial c k) refl (is_live k) refl (none_lives c cs parts.1)
  where
    at : (b : Bool) → has_serial c k ≡ b → (on : Bool) → is_live k ≡ on → list_any (lives_as c) cs ≡ false → ((b && on) || list_any (lives_as c) cs) ≡ false
    at true e true g rest =
        let was = gone_parts (has_serial c k) k.is_dropped (is_live k) (and_parts (gone_if c k) (list_all (gone_if c) cs) h).0 e in
        let off : is_live k ≡ false = was.1 in absurd cc
    at true e false g rest = rest
    at false e on g rest = rest

-- a connection that parts is another one
parted_gone : (c serial : ℕ) (why : PartCause) (now : ℕ) (cs : List Connection) → list_any (lives_as serial) cs ≡ true → list_all (gone_if c) cs ≡ true → list_all (gone_if c) (changed serial (parted why now) cs) ≡ true
parted_gone c serial why now cs on h = each_gone c serial (parted why now) (λ k mine was. at (serial == c) refl k mine) cs h
  where
    at : (b : Bool) → (serial == c) ≡ b → (k : Connection) → has_serial serial k ≡ true → gone_if c (parted why now k) ≡ true
    at true e k mine =
        let is : serial ≡ c = grind (arith, nat_tests, e) in
        let no : list_any (lives_as serial) cs ≡ false = subst (λ (n : ℕ). list_any (lives_as n) cs ≡ false) (sym is) (none_lives c cs h) in
        absurd cc
    at false e k mine =
        let other : has_serial c k ≡ false = grind (arith, nat_tests, e, mine) in
        ap (λ (b : Bool). not b || is_gone (parted why now k)) other

pub invariant : (c : ℕ) → IsInvariant any any_origin (Gone c)
invariant c = of-connections (λ cs. list_all (gone_if c) cs ≡ true)
    (λ serial f tame same none cs h. each_gone c serial f (λ k mine. kept_gone c f tame none k) cs h)
    (λ why serial now cs on h. parted_gone c serial why now cs on h)
    (λ serial s off h. each_gone c serial drops (λ k mine. dropped_gone c k) s.connections h)

pub stays-gone : (c : ℕ) (s : State) (h : Happening) → (h ≡ Joined c → ⊥) → HasGone c s → HasGone c (step s h)
stays-gone c s (Joined serial) other k = accept-keeps (invariant c) serial s (all_append (gone_if c) s.connections (fresh serial s.at ∷ []) k (at (serial == c) refl))
  where
    at : (b : Bool) → (serial == c) ≡ b → ((not b || is_gone (fresh serial s.at)) && true) ≡ true
    at true e = absurd (other (let is : serial ≡ c = grind (arith, nat_tests, e) in ap (λ (n : ℕ). Joined n) is))
    at false e = refl
stays-gone c s (Got serial piece) other k = got-keeps (invariant c) serial piece s k
stays-gone c s (Ended serial) other k = breaks-keeps (invariant c) cause.Ended serial s k
stays-gone c s (Failed serial) other k = breaks-keeps (invariant c) cause.Failed serial s k
stays-gone c s (Took serial count) other k = each_gone c serial (takes count) (λ x mine. kept_gone c (takes count) (takes-tame count) (λ y. (refl, λ on. on, λ off. refl)) x) s.connections k
stays-gone c s (Moment t) other k = moment-keeps (invariant c) (λ n. refl) (λ n. refl) t s k
stays-gone c s (Closed serial) other k = close-keeps (invariant c) serial s (all-fewer (gone_if c) (λ x. not (has_serial serial x)) s.connections k)

-- ---- who has gone

-- all of a serial that part by failure have
failed_gone : (c now : ℕ) (cs : List Connection) → list_all (gone_if c) (changed c (parted cause.Failed now) cs) ≡ true
failed_gone c now [] = refl
failed_gone c now (k ∷ cs) = and_from (gone_if c (changed_at c (parted cause.Failed now) k)) (list_all (gone_if c) (changed c (parted cause.Failed now) cs)) (at (has_serial c k) refl) (failed_gone c now cs)
  where
    or_last : (b : Bool) → (not b || true) ≡ true
    or_last true = refl
    or_last false = refl

    at : (b : Bool) → has_serial c k ≡ b → gone_if c (when b (parted cause.Failed now) k) ≡ true
    at true e = or_last (has_serial c k)
    at false e = ap (λ (t : Bool). not t || is_gone k) e

others_gone : (low c : ℕ) (cs : List Connection) → c ≤ low → Rise low (serials cs) → list_all (gone_if c) cs ≡ true
others_gone low c [] le r = refl
others_gone low c (x ∷ cs) le r =
    let above : low < x.serial = r.0 in
    let other : has_serial c x ≡ false = grind (arith, nat_tests, above, le) in
    let here : gone_if c x ≡ true = ap (λ (b : Bool). not b || is_gone x) other in
    and_from (gone_if c x) (list_all (gone_if c) cs) here (others_gone x.serial c cs (omega arith) r.1)

-- and so has one that is found dropped, among serials that rise, where those that are dropped are parting
pub found-gone : (low c : ℕ) (cs : List Connection) (k : Connection) → Rise low (serials cs) → list_all is_apart cs ≡ true → with_serial c cs ≡ Some k → k.is_dropped ≡ true → list_all (gone_if c) cs ≡ true
found-gone low c [] k r a e d = absurd cc
found-gone low c (x ∷ cs) k r a e d =
    let parts = and_parts (is_apart x) (list_all is_apart cs) a in
    at (has_serial c x) refl e parts.0 (λ f. found-gone x.serial c cs k r.1 parts.1 f d)
  where
    apart : (dropped on : Bool) → (not dropped || not on) ≡ true → dropped ≡ true → (dropped && not on) ≡ true
    apart true on h g = h
    apart false on h g = absurd cc

    or_last : (b t : Bool) → t ≡ true → (b || t) ≡ true
    or_last true t g = refl
    or_last false t g = g

    at : (b : Bool) → has_serial c x ≡ b → cond b (Some x) (with_serial c cs) ≡ Some k → is_apart x ≡ true → (with_serial c cs ≡ Some k → list_all (gone_if c) cs ≡ true) → list_all (gone_if c) (x ∷ cs) ≡ true
    at true mine f one later =
        let same : x ≡ k = cc in
        let dropped : x.is_dropped ≡ true = ap (λ (y : Connection). y.is_dropped) same ∙ d in
        let is : x.serial ≡ c = grind (arith, nat_tests, mine) in
        and_from (gone_if c x) (list_all (gone_if c) cs) (or_last (not (has_serial c x)) (is_gone x) (apart x.is_dropped (is_live x) one dropped)) (others_gone x.serial c cs (omega arith) r.1)
    at false mine f one later = and_from (gone_if c x) (list_all (gone_if c) cs) (ap (λ (b : Bool). not b || is_gone x) mine) (later f)

-- a connection that fails has gone
pub failed-gone : (c : ℕ) (s : State) → Rise 0 (serials s.connections) → list_all is_apart s.connections ≡ true → HasGone c (breaks cause.Failed c s)
failed-gone c s rise apart =
    part_slow-keeps (invariant c) (choose (lives s c) (part cause.Failed c) (change c drops) s)
    (choose-keeps (HasGone c) (lives s c) (part cause.Failed c) (change c drops) s (λ e. parts) (λ e. dropped e))
  where
    done : HasGone c (marked cause.Failed c s)
    done = failed_gone c s.at s.connections

    parts : HasGone c (part cause.Failed c s)
    parts = for_some-keeps (HasGone c) (screen_joined s c) (lose c) unchanged (marked cause.Failed c s) (λ screen e. lose-keeps (invariant c) c screen (marked cause.Failed c s) (marked-off cause.Failed c s) done) done

    dropped_one : (low : ℕ) (cs : List Connection) → Rise low (serials cs) → option_map_or is_live (with_serial c cs) false ≡ false → list_all (gone_if c) (changed c drops cs) ≡ true
    dropped_one low [] r off = refl
    dropped_one low (x ∷ cs) r off = at (has_serial c x) refl off (dropped_one x.serial cs r.1)
      where
        at : (b : Bool) → has_serial c x ≡ b → option_map_or is_live (cond b (Some x) (with_serial c cs)) false ≡ false → (option_map_or is_live (with_serial c cs) false ≡ false → list_all (gone_if c) (changed c drops cs) ≡ true) → list_all (gone_if c) (when b drops x ∷ changed c drops cs) ≡ true
        at true mine k later =
            let is : x.serial ≡ c = grind (arith, nat_tests, mine) in
            let same : changed c drops cs ≡ cs = above-same x.serial c drops cs (omega arith) r.1 in
            let here : gone_if c (drops x) ≡ true = gone_from (has_serial c x) true (is_live x) (λ e. (refl, k)) in
            and_from (gone_if c (drops x)) (list_all (gone_if c) (changed c drops cs)) here (ap (list_all (gone_if c)) same ∙ others_gone x.serial c cs (omega arith) r.1)
        at false mine k later = and_from (gone_if c x) (list_all (gone_if c) (changed c drops cs)) (ap (λ (b : Bool). not b || is_gone x) mine) (later k)

    dropped : lives s c ≡ false → HasGone c (change c drops s)
    dropped e = dropped_one 0 s.connections rise e
