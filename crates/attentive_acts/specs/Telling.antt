-- The happenings that acts tell.
use Rattle.std.specs.Prelude.{List, Option, Some, None}
use Rattle.std.specs.List.{filter_map}
use Rattle.hub_acts.specs.declared.act.Act.{Act}
use Rattle.hub_acts.specs.declared.act.Act.TheVariants as act
use Rattle.hub_acts.specs.declared.answers.AcceptAnswer.TheVariants as accepted
use Rattle.hub_acts.specs.declared.answers.ReadAnswer.TheVariants as read
use Rattle.hub_acts.specs.declared.answers.WriteAnswer.TheVariants as written
use Rattle.machine.specs.States.{State}
use Rattle.machine.specs.Happenings.{Happening, Joined, Got, Ended, Failed, Took, Moment, Closed}
use Rattle.machine.specs.Steps.{step}

-- an act that says nothing of a connection or of the clock tells none
abbrev pub happening_of : Act → Option Happening
happening_of (act.Now moment) = Some (Moment moment)
happening_of (act.Accept (accepted.New serial)) = Some (Joined serial)
happening_of (act.Read serial room (read.Got n) bytes) = Some (Got serial bytes)
happening_of (act.Read serial room read.End bytes) = Some (Ended serial)
happening_of (act.Read serial room read.Failed bytes) = Some (Failed serial)
happening_of (act.Write serial bytes (written.Took n)) = Some (Took serial n)
happening_of (act.Write serial bytes written.Failed) = Some (Failed serial)
happening_of (act.Close serial) = Some (Closed serial)
happening_of a = None

abbrev pub happenings : List Act → List Happening
happenings acts = filter_map happening_of acts

-- the machine after an act
abbrev pub step_if : Option Happening → State → State
step_if None s = s
step_if (Some h) s = step s h

abbrev pub state_after : Act → State → State
state_after a s = step_if (happening_of a) s
