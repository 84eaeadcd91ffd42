use Rattle.std.proofs.Common.{refl, ◌∙◌, subst}
use Rattle.hello_states.specs.Phases.{Greeting}
use Rattle.hello_states.specs.Handshake.{HelloAnswer}
use Rattle.machine.specs.Hello.{answer}
use Rattle.server_core.specs.Standing.{Stands}
use Rattle.server_core.proofs.Known.{phase-lives}
use Rattle.server_core.proofs.Admitted.{answer-is}
use Rattle.server_core.proofs.server.ServerCore.hear_hello.Goals as goal

pub returns-in_ok-admit-in-Ok : goal.returns-in_ok-admit-in-Ok
returns-in_ok-admit-in-Ok c = λ accepted b s p h.
    subst (λ (a : HelloAnswer). Stands b c.admit.new.self (answer a accepted c.args.serial s))
    (c.in-Ok.ensures.answer ∙ answer-is b c.args.self.now s c.used_screens-used.result c.args.major c.args.minor c.args.name.now c.used_screens-used.ensures h)
    (c.in_ok-admit-in-Ok.ensures accepted b s p h)

pub returns-in_ok-part-in-Err : goal.returns-in_ok-part-in-Err
returns-in_ok-part-in-Err c = λ accepted b s p h.
    subst (λ (a : HelloAnswer). Stands b c.part.new.self (answer a accepted c.args.serial s))
    (c.in-Err.ensures.answer ∙ answer-is b c.args.self.now s c.used_screens-used.result c.args.major c.args.minor c.args.name.now c.used_screens-used.ensures h)
    (c.in_ok-part-in-Err.ensures b s (phase-lives s c.args.serial (Greeting accepted) p refl) h)
