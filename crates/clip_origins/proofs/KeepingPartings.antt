-- What switches, partings and losses keep.
use Rattle.std.specs.Prelude.{refl, ℕ, length}
use Rattle.hello_states.specs.declared.part_cause.PartCause.{PartCause}
use Rattle.hello_states.specs.declared.part_cause.PartCause.TheVariants as cause
use Rattle.hello_states.specs.Causes.{farewell}
use Rattle.machine.specs.Targets.{Target, Primary, Client, Own, Origin, same_target}
use Rattle.machine.specs.Connections.{Connection}
use Rattle.machine.specs.States.{State, Point}
use Rattle.machine.specs.Combining.{when, unchanged}
use Rattle.machine.specs.Screens.{middle}
use Rattle.machine.specs.Routing.{route}
use Rattle.machine.specs.Switching.{tell_entering, tell_leaving, switch, fall_back}
use Rattle.machine.specs.Partings.{lose, say_farewell, parted, marked, screen_joined, part}
use Rattle.machine.specs.Slow.{first_slow, part_first_slow, part_slow}
use Rattle.machine.proofs.Rules.{when-keeps, for_some-keeps, times-keeps}
use Rattle.clip_origins.proofs.Keeping.{IsQuiet, Clipped, On, IsKept, refresh_both-keeps}

pub switch-keeps : {P : Clipped} (i : IsKept P) (o : Origin) (to : Target) (p : Point) (s : State) → On P s → On P (switch o to p s)
switch-keeps i o to p s h = refresh_both-keeps i (tell_entering o to p (tell_leaving s)) h

fall_back-keeps : {P : Clipped} (i : IsKept P) (s : State) → On P s → On P (fall_back s)
fall_back-keeps i s h = refresh_both-keeps i (tell_entering Own Primary (middle s.primary_shape) s) h

lose-keeps : {P : Clipped} (i : IsKept P) (serial screen : ℕ) (s : State) → On P s → On P (lose serial screen s)
lose-keeps {P} i serial screen s h =
    let back : State = when (same_target s.active (Client serial)) fall_back s in
    i.left back.primary screen back.clips back.connections (when-keeps (On P) (same_target s.active (Client serial)) fall_back (fall_back-keeps i) s h)

say_farewell-keeps : (P : Clipped) (cause : PartCause) (serial : ℕ) (s : State) → On P s → On P (say_farewell cause serial s)
say_farewell-keeps P cause serial s h = for_some-keeps (On P) (farewell cause) (route Own (Client serial)) unchanged s (λ m e. h) h

parted-quiet : (cause : PartCause) (now : ℕ) (c : Connection) → IsQuiet c (parted cause now c)
parted-quiet cause now c = record { received = refl; parts = refl; live = λ e. absurd (let x : ⊥ = cc in x); early = λ e. absurd (let x : ⊥ = cc in x) }

pub part-keeps : {P : Clipped} (i : IsKept P) (cause : PartCause) (serial : ℕ) (s : State) → On P s → On P (part cause serial s)
part-keeps {P} i cause serial s h =
    let told : State = say_farewell cause serial s in
    let after : On P (marked cause serial told) = i.changed serial (parted cause told.at) told.clips told.connections (λ c. refl) (λ c e. parted-quiet cause told.at c) (say_farewell-keeps P cause serial s h) in
    for_some-keeps (On P) (screen_joined s serial) (lose serial) unchanged (marked cause serial told) (λ screen e. lose-keeps i serial screen (marked cause serial told) after) after

part_first_slow-keeps : {P : Clipped} (i : IsKept P) (s : State) → On P s → On P (part_first_slow s)
part_first_slow-keeps {P} i s h = for_some-keeps (On P) (first_slow s) (λ c. part cause.Slow c.serial) unchanged s (λ c f. part-keeps i cause.Slow c.serial s h) h

pub part_slow-keeps : {P : Clipped} (i : IsKept P) (s : State) → On P s → On P (part_slow s)
part_slow-keeps {P} i s h = times-keeps (On P) (length s.connections) part_first_slow (part_first_slow-keeps i) s h
