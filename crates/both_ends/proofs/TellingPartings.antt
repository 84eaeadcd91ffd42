-- What switches, partings and losses do, told by the steps that rules are made of.
use Rattle.std.specs.Prelude.{refl, ℕ, [], ◌∷◌, length}
use Rattle.message_codec.specs.declared.messages.Msg.TheVariants as msg
use Rattle.hello_states.specs.declared.part_cause.PartCause.{PartCause}
use Rattle.hello_states.specs.declared.part_cause.PartCause.TheVariants as cause
use Rattle.clip_chunks.specs.Rules as rules
use Rattle.machine.specs.Targets.{Target, Primary, Client, Own, Origin, same_target}
use Rattle.machine.specs.States.{State, Point, Part}
use Rattle.machine.specs.Combining.{when, unchanged}
use Rattle.machine.specs.Screens.{middle, change}
use Rattle.machine.specs.Switching.{entering, at_screen, tell_entering, tell_leaving, switch, fall_back}
use Rattle.machine.specs.Partings.{lose, say_farewell, parted, marked, screen_joined, part}
use Rattle.machine.specs.Slow.{first_slow, part_first_slow, part_slow}
use Rattle.machine.proofs.Rules.{when-keeps, for_some-keeps, times-keeps}
use Rattle.both_ends.proofs.Telling.{Kinds, IsTelling}
use Rattle.both_ends.proofs.TellingClipboards.{refresh_both-tells}

-- ---- switches

entering-tells : {k : Kinds} (i : IsTelling k) (o : Origin) (to : Target) (p : Point) (s : State) → k.point p → k.state s → k.state (tell_entering o to p s)
entering-tells i o to p s at h = i.told o to (entering p s) (i.enters p s.sequence s at h) (at_screen to p s) (i.at_screen to p s at h)

pub switch-tells : {k : Kinds} (i : IsTelling k) (o : Origin) (to : Target) (p : Point) (s : State) → k.point p → k.state s → k.state (switch o to p s)
switch-tells i o to p s at h = refresh_both-tells i (tell_entering o to p (tell_leaving s)) (entering-tells i o to p (tell_leaving s) at (i.told Own s.active msg.Leave (i.bare msg.Leave refl) s h))

fall_back-tells : {k : Kinds} (i : IsTelling k) (s : State) → k.state s → k.state (fall_back s)
fall_back-tells i s h = refresh_both-tells i (tell_entering Own Primary (middle s.primary_shape) s) (entering-tells i Own Primary (middle s.primary_shape) s (i.middles s.primary_shape (i.shapes s Primary h)) h)

-- ---- partings

lose-tells : {k : Kinds} (i : IsTelling k) (serial screen : ℕ) (s : State) → k.state s → k.state (lose serial screen s)
lose-tells {k} i serial screen s h =
    let back : State = when (same_target s.active (Client serial)) fall_back s in
    i.each_clip (rules.left back.primary screen) back (λ c. i.left back.primary screen c) (when-keeps k.state (same_target s.active (Client serial)) fall_back (fall_back-tells i) s h)

say_farewell-tells : {k : Kinds} (i : IsTelling k) (cause : PartCause) (serial : ℕ) (s : State) → k.state s → k.state (say_farewell cause serial s)
say_farewell-tells i cause.Bye serial s h = i.told Own (Client serial) msg.Bye (i.bare msg.Bye refl) s h
say_farewell-tells i cause.Version serial s h = i.told Own (Client serial) (msg.BadVersion 1 6) i.version s h
say_farewell-tells i cause.Unknown serial s h = i.told Own (Client serial) msg.Unknown (i.bare msg.Unknown refl) s h
say_farewell-tells i cause.Busy serial s h = i.told Own (Client serial) msg.Busy (i.bare msg.Busy refl) s h
say_farewell-tells i cause.Size serial s h = i.told Own (Client serial) msg.Malformed (i.bare msg.Malformed refl) s h
say_farewell-tells i (cause.Bad place reason) serial s h = i.told Own (Client serial) msg.Malformed (i.bare msg.Malformed refl) s h
say_farewell-tells i cause.Dead serial s h = h
say_farewell-tells i cause.Silent serial s h = h
say_farewell-tells i cause.Slow serial s h = h
say_farewell-tells i cause.Full serial s h = h
say_farewell-tells i cause.Ended serial s h = h
say_farewell-tells i cause.Failed serial s h = h

pub part-tells : {k : Kinds} (i : IsTelling k) (cause : PartCause) (serial : ℕ) (s : State) → k.state s → k.state (part cause serial s)
part-tells {k} i cause serial s h =
    let told : State = say_farewell cause serial s in
    let after : k.state (marked cause serial told) = i.logged (Part serial cause ∷ []) (change serial (parted cause told.at) told) (i.changed serial (parted cause told.at) told (i.parts cause told.at) (say_farewell-tells i cause serial s h)) in
    for_some-keeps k.state (screen_joined s serial) (lose serial) unchanged (marked cause serial told) (λ screen e. lose-tells i serial screen (marked cause serial told) after) after

-- ---- slow connections

part_first_slow-tells : {k : Kinds} (i : IsTelling k) (s : State) → k.state s → k.state (part_first_slow s)
part_first_slow-tells {k} i s h = for_some-keeps k.state (first_slow s) (λ c. part cause.Slow c.serial) unchanged s (λ c f. part-tells i cause.Slow c.serial s h) h

pub part_slow-tells : {k : Kinds} (i : IsTelling k) (s : State) → k.state s → k.state (part_slow s)
part_slow-tells {k} i s h = times-keeps k.state (length s.connections) part_first_slow (part_first_slow-tells i) s h
