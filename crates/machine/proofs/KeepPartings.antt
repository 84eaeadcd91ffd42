-- Switches, partings and losses keep every invariant.
use Rattle.std.specs.Prelude.{◌≡◌, refl, ℕ, Bool, true, false, ◌||◌, ◌==◌, List, [], ◌∷◌, length, Some}
use Rattle.std.specs.List.{list_any}
use Rattle.std.proofs.Common.{arith, subst, inr}
use Rattle.std.proofs.lemmas.Bool.{and_parts}
use Rattle.message_codec.specs.declared.messages.Msg.TheVariants as msg
use Rattle.hello_states.specs.declared.part_cause.PartCause.{PartCause}
use Rattle.hello_states.specs.declared.part_cause.PartCause.TheVariants as cause
use Rattle.hello_states.specs.Causes.{farewell}
use Rattle.machine.specs.Targets.{Target, Primary, Client, Own, Origin, same_target}
use Rattle.machine.specs.Connections.{Connection, has_serial, is_live, changed}
use Rattle.machine.specs.States.{State, Point, Part}
use Rattle.machine.specs.Queues.{is_slow}
use Rattle.machine.specs.Combining.{when, unchanged}
use Rattle.machine.specs.Screens.{middle, change}
use Rattle.machine.specs.Routing.{route}
use Rattle.machine.specs.Switching.{tell_entering, tell_leaving, switch, fall_back}
use Rattle.machine.specs.Partings.{lose, say_farewell, parted, marked, screen_joined, part}
use Rattle.machine.specs.Slow.{is_too_slow, first_slow, part_first_slow, part_slow}
use Rattle.machine.proofs.Targets.{same_target-is}
use Rattle.machine.proofs.Rules.{for_some-keeps, times-keeps}
use Rattle.machine.proofs.Finding.{found-passes}
use Rattle.machine.proofs.Live.{lives_as, IsLive, tested-live}
use Rattle.machine.proofs.Invariant.{View, On, IsInvariant}
use Rattle.machine.proofs.KeepClipboards.{refresh_both-keeps}

-- ---- switches

pub switch-keeps : {key : ℕ → Bool} {allowed : Origin → Bool} {P : View → Type 0} (i : IsInvariant key allowed P) (o : Origin) → allowed o ≡ true → (to : Target) (p : Point) (s : State) → IsLive s.connections to → On P s → On P (switch o to p s)
switch-keeps i o a to p s on h = refresh_both-keeps i (tell_entering o to p (tell_leaving s)) (i.switched o a to p s on h)

fall_back-keeps : {key : ℕ → Bool} {allowed : Origin → Bool} {P : View → Type 0} (i : IsInvariant key allowed P) (s : State) → (IsLive s.connections s.active → ⊥) → On P s → On P (fall_back s)
fall_back-keeps i s off h = refresh_both-keeps i (tell_entering Own Primary (middle s.primary_shape) s) (i.fell (middle s.primary_shape) s off h)

-- ---- partings

-- a connection that was marked doesn't live
stopped : (n serial : ℕ) (cause : PartCause) (now : ℕ) (cs : List Connection) → (n == serial) ≡ true → list_any (lives_as n) (changed serial (parted cause now) cs) ≡ false
stopped n serial cause now [] e = refl
stopped n serial cause now (c ∷ cs) e = by (has_serial serial c) refl (stopped n serial cause now cs e)
  where
    by : (b : Bool) → has_serial serial c ≡ b → list_any (lives_as n) (changed serial (parted cause now) cs) ≡ false → (lives_as n (when b (parted cause now) c) || list_any (lives_as n) (changed serial (parted cause now) cs)) ≡ false
    by true k h = grind (arith, h)
    by false k h = let no : (c.serial == n) ≡ false = grind (arith, k, e) in grind (arith, no, h)

pub marked-off : (cause : PartCause) (serial : ℕ) (s : State) → IsLive (marked cause serial s).connections (Client serial) → ⊥
marked-off cause serial s h = let no = stopped serial serial cause s.at s.connections (grind arith) in grind (arith, no, h)

pub lose-keeps : {key : ℕ → Bool} {allowed : Origin → Bool} {P : View → Type 0} (i : IsInvariant key allowed P) (serial screen : ℕ) (s : State) → (IsLive s.connections (Client serial) → ⊥) → On P s → On P (lose serial screen s)
lose-keeps {P = P} i serial screen s off h = by (same_target s.active (Client serial)) refl
  where
    by : (b : Bool) → same_target s.active (Client serial) ≡ b → On P (when b fall_back s)
    by false d = h
    by true d = fall_back-keeps i s (λ k. off (subst (IsLive s.connections) (same_target-is s.active (Client serial) d) k)) h

say_farewell-keeps : {key : ℕ → Bool} {allowed : Origin → Bool} {P : View → Type 0} (i : IsInvariant key allowed P) (cause : PartCause) (serial : ℕ) (s : State) → IsLive s.connections (Client serial) → On P s → On P (say_farewell cause serial s)
say_farewell-keeps i cause.Bye serial s on h = i.plain Own i.own (Client serial) msg.Bye refl s (inr on) h
say_farewell-keeps i cause.Version serial s on h = i.plain Own i.own (Client serial) (msg.BadVersion 1 6) refl s (inr on) h
say_farewell-keeps i cause.Unknown serial s on h = i.plain Own i.own (Client serial) msg.Unknown refl s (inr on) h
say_farewell-keeps i cause.Busy serial s on h = i.plain Own i.own (Client serial) msg.Busy refl s (inr on) h
say_farewell-keeps i cause.Size serial s on h = i.plain Own i.own (Client serial) msg.Malformed refl s (inr on) h
say_farewell-keeps i (cause.Bad place reason) serial s on h = i.plain Own i.own (Client serial) msg.Malformed refl s (inr on) h
say_farewell-keeps i cause.Dead serial s on h = h
say_farewell-keeps i cause.Silent serial s on h = h
say_farewell-keeps i cause.Slow serial s on h = h
say_farewell-keeps i cause.Full serial s on h = h
say_farewell-keeps i cause.Ended serial s on h = h
say_farewell-keeps i cause.Failed serial s on h = h

told_live : (cause : PartCause) (serial : ℕ) (s : State) → IsLive s.connections (Client serial) → IsLive (say_farewell cause serial s).connections (Client serial)
told_live cause serial s on = for_some-keeps (λ (t : State). IsLive t.connections (Client serial)) (farewell cause) (route Own (Client serial)) unchanged s (λ m e. on) on

pub part-keeps : {key : ℕ → Bool} {allowed : Origin → Bool} {P : View → Type 0} (i : IsInvariant key allowed P) (cause : PartCause) (serial : ℕ) (s : State) → IsLive s.connections (Client serial) → On P s → On P (part cause serial s)
part-keeps {P = P} i cause serial s on h =
    let told : State = say_farewell cause serial s in
    let after : On P (marked cause serial told) = i.logged (Part serial cause ∷ []) (change serial (parted cause told.at) told) (i.parts cause serial told (told_live cause serial s on) (say_farewell-keeps i cause serial s on h)) in
    for_some-keeps (On P) (screen_joined s serial) (lose serial) unchanged (marked cause serial told) (λ screen e. lose-keeps i serial screen (marked cause serial told) (marked-off cause serial told) after) after

-- ---- slow connections

pub slow-live : (s : State) (c : Connection) → first_slow s ≡ Some c → is_live c ≡ true
slow-live s c f = (and_parts (is_live c) (is_slow s.routed c.serial) (found-passes (is_too_slow s) s.connections c f)).0

part_first_slow-keeps : {key : ℕ → Bool} {allowed : Origin → Bool} {P : View → Type 0} (i : IsInvariant key allowed P) (s : State) → On P s → On P (part_first_slow s)
part_first_slow-keeps {P = P} i s h = for_some-keeps (On P) (first_slow s) (λ c. part cause.Slow c.serial) unchanged s (λ c f. part-keeps i cause.Slow c.serial s (tested-live (is_too_slow s) s.connections c f (slow-live s c f)) h) h

pub part_slow-keeps : {key : ℕ → Bool} {allowed : Origin → Bool} {P : View → Type 0} (i : IsInvariant key allowed P) (s : State) → On P s → On P (part_slow s)
part_slow-keeps {P = P} i s h = times-keeps (On P) (length s.connections) part_first_slow (part_first_slow-keeps i) s h
