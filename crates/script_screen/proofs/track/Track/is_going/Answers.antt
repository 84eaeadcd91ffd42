use Rattle.std.proofs.Common.{sym, ◌∙◌}
use Rattle.script_screen.proofs.TrackSteps.{going_by}
use Rattle.script_screen.proofs.track.Track.is_going.Goals as goal

pub returns-then-is_known : goal.returns-then-is_known
returns-then-is_known c lines h =
    going_by c.args.self.now lines c.args.connection c.index.result.now h
    (sym (c.is_known.ensures.known lines h) ∙ c.if-is_known.true) c.if-is_known.ensures.within
    c.index.ensures
