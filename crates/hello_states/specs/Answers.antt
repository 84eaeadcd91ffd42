-- The answer to the greeting under a configuration, and the phase that an answered connection is
-- in.
use Rattle.std.specs.Prelude.{ℕ, List, Result, Ok, Err}
use Rattle.share_base.specs.declared.numbers.ScreenNo.{ScreenNo}
use Rattle.share_base.specs.Screens.{has}
use Rattle.screen_config.specs.Configurations.{Configuration, screen_of}
use Rattle.screen_config.specs.Globals.{globals_of}
use Rattle.hello_states.specs.declared.part_cause.PartCause.{PartCause}
use Rattle.hello_states.specs.declared.greeting.Answered.{Answered}
use Rattle.hello_states.specs.declared.greeting.Answered.TheVariants as answered
use Rattle.hello_states.specs.Phases.{Phase}
use Rattle.hello_states.specs.Handshake.{HelloAnswer, Refused, Admitted, hello_answer}
use Rattle.hello_states.specs.TypedPhases.{asked_phase, parting_phase}

-- where those screens are used
abbrev pub answer_under : Configuration → ℕ → ℕ → ℕ → List ℕ → HelloAnswer
answer_under config used major minor name =
    hello_answer major minor (screen_of config name) (has used)

-- the rate of a keep-alive
abbrev pub rate_under : Configuration → ℕ
rate_under config = (globals_of config.settings).heartbeat

abbrev pub answer_of : Result ScreenNo PartCause → HelloAnswer
answer_of (Ok screen) = Admitted screen.0
answer_of (Err cause) = Refused cause

abbrev pub phase_answered : Answered → Phase
phase_answered (answered.Asked a) = asked_phase a
phase_answered (answered.Parting p) = parting_phase p

abbrev pub serial_answered : Answered → ℕ
serial_answered (answered.Asked a) = a.serial
serial_answered (answered.Parting p) = p.serial
