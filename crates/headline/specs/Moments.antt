-- Where acts lead, and what holds at each moment of a run.
use Rattle.std.specs.Prelude.{◌≡◌, List, ◌++◌}
use Rattle.hub_acts.specs.declared.act.Act.{Act}
use Rattle.machine.specs.States.{State}
use Rattle.machine.specs.Steps.{run}
use Rattle.machine.specs.OneForOne.{RunLine, lines_run}
use Rattle.reached_states.specs.Reaching.{Origin, start_of}
use Rattle.attentive_acts.specs.Telling.{happenings}

-- the machine's state after these acts
abbrev pub state_over : Origin → List Act → State
state_over o acts = run (happenings acts) (start_of o)

-- the lines of the script that ran meanwhile, each with the state in which it ran
abbrev pub lines_over : Origin → List Act → List RunLine
lines_over o acts = lines_run (happenings acts) (start_of o)

-- before the first act, and after each
abbrev pub Throughout : (List Act → Type 0) → List Act → Type 0
Throughout Holds acts = (before after : List Act) → acts ≡ before ++ after → Holds before
