use Rattle.std.specs.Prelude.{ℕ, List}
use Rattle.std.proofs.Common.{sym, subst}
use Rattle.message_codec.specs.declared.messages.Msg.{Msg}
use Rattle.machine.specs.Hello.{hear_hello}
use Rattle.machine.specs.Hearing.{hear_greeting}
use Rattle.server_core.specs.Standing.{Stands}
use Rattle.server_core.proofs.server.ServerCore.hear_greeting.Goals as goal

pub returns : goal.returns
returns c = λ accepted b s p h.
    subst (λ (m : Msg). Stands b c.hear_hello.new.self (hear_greeting accepted m c.args.serial s)) (sym c.in-HelloBack.is)
    (subst (λ (ns : List ℕ). Stands b c.hear_hello.new.self (hear_hello c.in-HelloBack.major c.in-HelloBack.minor ns accepted c.args.serial s)) c.as_slice.ensures (c.in_ok-hear_hello.ensures accepted b s p h))
