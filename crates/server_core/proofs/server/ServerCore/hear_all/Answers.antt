use Rattle.std.specs.Prelude.{take}
use Rattle.std.proofs.Common.{arith, sym, subst}
use Rattle.machine.specs.Combining.{for_each}
use Rattle.machine.specs.Hearing.{hear}
use Rattle.server_core.specs.Standing.{Stands}
use Rattle.server_core.proofs.Loops.{for_each-more}
use Rattle.server_core.proofs.server.ServerCore.hear_all.Goals as goal

pub loop-message-preserved : goal.loop-message-preserved
loop-message-preserved c = λ b s h.
    let at = c.loop-message.message-index in
    subst (λ t. Stands b c.hear.new.self t) (sym (for_each-more c.args.messages.now at c.message-item.result (hear c.args.serial) s (omega (arith, c.loop-message-test.true)) c.message-item.is))
    (c.in_ok-hear.ensures b (for_each (take at c.args.messages.now) (hear c.args.serial) s) (c.loop-message.invariant b s h))
