use Rattle.std.specs.Prelude.{Bool}
use Rattle.std.proofs.Common.{sym, ◌∙◌, subst}
use Rattle.machine.specs.Combining.{when}
use Rattle.machine.specs.Switching.{fall_back}
use Rattle.server_core.specs.Standing.{Stands}
use Rattle.server_core.proofs.server.ServerCore.leave_lost.Goals as goal

pub returns-then-is_active : goal.returns-then-is_active
returns-then-is_active c = λ b s h. subst (λ (t : Bool). Stands b c.fall_back.new.self (when t fall_back s)) (sym c.if-is_active.true ∙ c.is_active.ensures b s h) (c.in_ok-fall_back.ensures b s h)

pub returns : goal.returns
returns c = λ b s h. subst (λ (t : Bool). Stands b c.args.self.now (when t fall_back s)) (sym c.if-is_active.false ∙ c.is_active.ensures b s h) h
