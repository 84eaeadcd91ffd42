use Rattle.std.specs.Prelude.{refl, true, false}
use Rattle.std.proofs.Common.{sym, ◌∙◌}
use Rattle.server_core.proofs.Told.{stands-sent}
use Rattle.server_core.proofs.server.ServerCore.send.Goals as goal

pub returns-then-is_slow : goal.returns-then-is_slow
returns-then-is_slow c = λ o b s there h. stands-sent b c.args.self.now s o c.args.serial c.args.message.now c.send.new.self c.args.self.now.log true there h c.in_ok-send.ensures.ok (sym c.if-is_slow.true ∙ c.is_slow.ensures) (λ e. refl) (λ e. absurd (let x : ⊥ = cc in x))

pub returns : goal.returns
returns c = λ o b s there h. stands-sent b c.args.self.now s o c.args.serial c.args.message.now c.send.new.self c.sent.new.self false there h c.in_ok-send.ensures.ok (sym c.if-is_slow.false ∙ c.is_slow.ensures) (λ e. absurd (let x : ⊥ = cc in x)) (λ e. c.in_ok-sent.ensures.ok)
