use Rattle.std.proofs.Common.{ap}
use Rattle.screen_crossing.specs.Points.{point_of}
use Rattle.server_core.proofs.Kept.{stands-cursor}
use Rattle.server_core.proofs.server.ServerCore.put_cursor.Goals as goal

pub returns : goal.returns
returns c = λ b s h. stands-cursor b c.args.self.now s c.new-self.result (point_of c.args.point) h (ap point_of c.new-self.ensures)
