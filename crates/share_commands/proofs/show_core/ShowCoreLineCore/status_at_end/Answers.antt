use Rattle.std.proofs.Common.{Some, None, refl}
use Rattle.share_commands.proofs.Shown.{ends_input}
use Rattle.share_commands.proofs.show_core.ShowCoreLineCore.status_at_end.Goals as goal

pub returns-in-Some : goal.returns-in-Some
returns-in-Some c = ends_input c.args.self.now (Some c.in-Some.place) _ c.requires c.in-Some.ensures refl

pub returns-in-None : goal.returns-in-None
returns-in-None c = ends_input c.args.self.now None _ c.requires c.in-None.ensures refl
