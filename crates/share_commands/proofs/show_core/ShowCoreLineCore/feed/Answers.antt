use Rattle.std.proofs.Common.{refl}
use Rattle.share_commands.proofs.Shown.{feeds}
use Rattle.share_commands.proofs.show_core.ShowCoreLineCore.feed.Goals as goal

pub returns : goal.returns
returns c = feeds c.args.self.now _ c.show_piece-answer.result c.args.piece.now c.requires.goes c.status_after-self.ensures refl c.show_piece-answer.ensures
