use Rattle.std.proofs.Common.{◌∙◌, ap}
use Rattle.script_screen.specs.Traces.{unless_known}
use Rattle.script_screen.proofs.track.Track.fault.Goals as goal

pub returns-in-Got : goal.returns-in-Got
returns-in-Got c lines h =
    rw c.in-Got.is (c.unless_known.ensures ∙ ap unless_known (c.is_going.ensures lines h))

pub returns-in-Room : goal.returns-in-Room
returns-in-Room c lines h =
    rw c.in-Room.is
    (c.unless_known-in-Room.ensures ∙ ap unless_known (c.is_known.ensures.known lines h))
