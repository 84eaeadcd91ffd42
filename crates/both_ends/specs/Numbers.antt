-- Numbers and bytes that are those of their types: in a script, in what happens, and in what is
-- told of them.
use Rattle.std.specs.Prelude.{ℕ, ◌<◌, ◌≤◌, ◌^◌, List, FitsSigned}
use Rattle.std.specs.Int.{w16}
use Rattle.std.specs.List.{AllByRecursion}
use Rattle.message_codec.specs.Streams.{AreBytes}
use Rattle.screen_config.specs.Sound.{IsSound}
use Rattle.machine.specs.Scripts.{Script, Line}
use Rattle.machine.specs.Scripts as line
use Rattle.machine.specs.Targets.{Target}
use Rattle.machine.specs.States.{State}
use Rattle.machine.specs.Queues.{messages_for}
use Rattle.machine.specs.Happenings as machine
use Rattle.reached_states.specs.Reaching.{Origin, ReachedBy}
use Rattle.both_ends.specs.Writing.{IsWritable}

-- keys, counts and buttons of the keyboard have two bytes, buttons of the mouse one, and motions
-- two with a sign; what is copied are bytes
abbrev pub IsOfTypes : Line → Type 0
IsOfTypes (line.KeyDown id button) = (id < 2 ^ 16) × (button < 2 ^ 16)
IsOfTypes (line.KeyRepeat count button) = (count < 2 ^ 16) × (button < 2 ^ 16)
IsOfTypes (line.KeyUp button) = button < 2 ^ 16
IsOfTypes (line.ButtonDown b) = b < 2 ^ 8
IsOfTypes (line.ButtonUp b) = b < 2 ^ 8
IsOfTypes (line.Motion dx dy) = FitsSigned w16 dx × FitsSigned w16 dy
IsOfTypes (line.Wheel dx dy) = FitsSigned w16 dx × FitsSigned w16 dy
IsOfTypes (line.Copy clip bytes) = AreBytes bytes
IsOfTypes _ = Unit {0}

-- and the primary's sides have 1 to 32,767 pixels
pub record HasTypes (script : Script) : Type 0 where
  pub some_columns : 1 ≤ script.width
  pub few_columns : script.width ≤ 32767
  pub some_rows : 1 ≤ script.height
  pub few_rows : script.height ≤ 32767
  pub lines : AllByRecursion IsOfTypes script.lines

-- what comes from a client are bytes
abbrev pub BringsBytes : machine.Happening → Type 0
BringsBytes (machine.Got serial piece) = AreBytes piece
BringsBytes _ = Unit {0}

-- under a configuration that was read, all that is told can be written
abbrev pub AllIsWritable : Type 0
AllIsWritable =
    (o : Origin) (happenings : List machine.Happening) (latest : ℕ) (s : State)
    → ReachedBy o happenings latest s → IsSound o.config → HasTypes o.script
    → AllByRecursion BringsBytes happenings
    → (t : Target) → AllByRecursion IsWritable (messages_for t s.routed)
