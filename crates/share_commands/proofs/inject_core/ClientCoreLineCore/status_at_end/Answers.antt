use Rattle.std.proofs.Common.{Some, None, refl}
use Rattle.share_commands.proofs.Injection.{goes_on, ends_input}
use Rattle.share_commands.proofs.inject_core.ClientCoreLineCore.status_at_end.Goals as goal

pub returns-in-Some : goal.returns-in-Some
returns-in-Some c =
    let none = goes_on c.args.self.now.done c.requires in
    ends_input c.args.self.now (Some c.in-Some.place) _ none (c.in-Some.ensures.goes none) refl

pub returns-in-None : goal.returns-in-None
returns-in-None c =
    let none = goes_on c.args.self.now.done c.requires in
    ends_input c.args.self.now None _ none (c.in-None.ensures.goes none) refl
