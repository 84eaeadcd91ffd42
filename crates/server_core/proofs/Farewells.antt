-- A farewell parts nobody.
use Rattle.std.specs.Prelude.{◌≡◌, refl, ℕ, true, false, List, Option, Some, None}
use Rattle.std.specs.List.{find}
use Rattle.std.specs.Option.{option_map_or}
use Rattle.std.proofs.Common.{ap, ◌∙◌}
use Rattle.message_codec.specs.declared.messages.Msg.{Msg}
use Rattle.hello_states.specs.declared.part_cause.PartCause.{PartCause}
use Rattle.hello_states.specs.Causes.{farewell}
use Rattle.machine.specs.Targets.{Client, Own}
use Rattle.machine.specs.Connections.{Connection, has_serial, is_live}
use Rattle.machine.specs.States.{State}
use Rattle.machine.specs.Combining.{for_some, unchanged}
use Rattle.machine.specs.Screens.{lives}
use Rattle.machine.specs.Routing.{route}
use Rattle.machine.specs.Partings.{say_farewell}

told_same : (n : ℕ) (o : Option Msg) (s : State) → (for_some o (route Own (Client n)) unchanged s).connections ≡ s.connections
told_same n None s = refl
told_same n (Some m) s = refl

pub farewell-lives : (cause : PartCause) (n : ℕ) (s : State) → lives s n ≡ true → lives (say_farewell cause n s) n ≡ true
farewell-lives cause n s h = ap (λ (cs : List Connection). option_map_or is_live (find (has_serial n) cs) false) (told_same n (farewell cause) s) ∙ h
