use Rattle.std.specs.Prelude.{Option, unwrap_or}
use Rattle.std.specs.Option.{option_map}
use Rattle.std.proofs.Common.{sym, ap, ◌∙◌}
use Rattle.machine.specs.Targets.{Target, Primary}
use Rattle.server_core.specs.declared.target.Target as kept
use Rattle.server_core.specs.Targets.{meant}
use Rattle.server_core.proofs.server.ServerCore.holder.Goals as goal

pub returns-in-Some : goal.returns-in-Some
returns-in-Some c = λ b s h. ap (λ (o : Option kept.Target). unwrap_or (option_map meant o) Primary) (sym c.in-Some.is) ∙ ap (λ (o : Option Target). unwrap_or o Primary) (c.target_of.ensures b s h)

pub returns-in-None : goal.returns-in-None
returns-in-None c = λ b s h. ap (λ (o : Option kept.Target). unwrap_or (option_map meant o) Primary) (sym c.in-None.is) ∙ ap (λ (o : Option Target). unwrap_or o Primary) (c.target_of.ensures b s h)
