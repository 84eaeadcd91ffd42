-- The happenings that acts on a link tell the client.
use Rattle.std.specs.Prelude.{List, Option, Some, None}
use Rattle.std.specs.List.{filter_map}
use Rattle.hub_acts.specs.declared.act.Act.{Act}
use Rattle.hub_acts.specs.declared.act.Act.TheVariants as act
use Rattle.hub_acts.specs.declared.answers.LinkWaited.TheVariants as waited
use Rattle.hub_acts.specs.declared.answers.ReadAnswer.TheVariants as read
use Rattle.hub_acts.specs.declared.answers.WriteAnswer.TheVariants as written
use Rattle.client_core.specs.declared.client_end.ClientEnd.TheVariants as end
use Rattle.client_core.specs.declared.client_end.LostCause.TheVariants as lost
use Rattle.client_core.specs.Clients.{Client}
use Rattle.client_core.specs.Happenings.{Happening, Got, Moment, Took, Ended, step}

-- the stream's end, as a read answers it or a wait
abbrev pub stream_end : Happening
stream_end = Ended (end.Lost lost.Ended)

-- a read or a write failed
abbrev pub failure : Happening
failure = Ended (end.Lost lost.Failed)

-- an act that says nothing of the stream or of the clock tells none
abbrev pub happening_of : Act → Option Happening
happening_of (act.LinkWait ms waited.Over) = Some stream_end
happening_of (act.LinkNow moment) = Some (Moment moment)
happening_of (act.LinkRead room (read.Got n) bytes) = Some (Got bytes)
happening_of (act.LinkRead room read.End bytes) = Some stream_end
happening_of (act.LinkRead room read.Failed bytes) = Some failure
happening_of (act.LinkWrite bytes (written.Took n)) = Some (Took n)
happening_of (act.LinkWrite bytes written.Failed) = Some failure
happening_of a = None

abbrev pub happenings : List Act → List Happening
happenings acts = filter_map happening_of acts

-- the client after an act
abbrev pub step_if : Option Happening → Client → Client
step_if None c = c
step_if (Some h) c = step c h

abbrev pub client_after : Act → Client → Client
client_after a c = step_if (happening_of a) c
