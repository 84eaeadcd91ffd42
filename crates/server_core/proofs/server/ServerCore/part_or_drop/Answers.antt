use Rattle.std.specs.Prelude.{◌≡◌, refl, true, false}
use Rattle.std.proofs.Common.{sym, ◌∙◌, subst}
use Rattle.machine.specs.Combining.{choose}
use Rattle.machine.specs.Screens.{lives, change}
use Rattle.machine.specs.Partings.{part}
use Rattle.machine.specs.Steps.{drops}
use Rattle.connection_table.proofs.Standing.{are-dropped}
use Rattle.server_core.specs.Standing.{around, Stands}
use Rattle.server_core.proofs.Changed.{stands-changed}
use Rattle.server_core.proofs.server.ServerCore.part_or_drop.Goals as goal

pub returns-then-lives : goal.returns-then-lives
returns-then-lives c = λ b s h.
    let on : lives s c.args.serial ≡ true = sym (c.lives.ensures b s h) ∙ c.if-lives.true in
    subst (λ x. Stands b c.part.new.self (choose x (part c.args.cause c.args.serial) (change c.args.serial drops) s)) (sym on) (c.in_ok-part.ensures b s on h)

pub returns : goal.returns
returns c = λ b s h.
    let off : lives s c.args.serial ≡ false = sym (c.lives.ensures b s h) ∙ c.if-lives.false in
    subst (λ x. Stands b (record c.args.self.now { table = c.drop_bytes.new.self }) (choose x (part c.args.cause c.args.serial) (change c.args.serial drops) s)) (sym off)
    (stands-changed b c.args.self.now s c.drop_bytes.new.self c.args.serial drops (λ d. refl) h (are-dropped (around b s) c.args.serial c.args.self.now.table c.drop_bytes.new.self s.connections off h.connections c.drop_bytes.ensures))
