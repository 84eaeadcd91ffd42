use Rattle.std.proofs.Common.{sym, ap, ◌∙◌}
use Rattle.send_queue.specs.QueueParts.{QueueParts}
use Rattle.server_core.proofs.Taken.{found_serial, some-total, none-total}
use Rattle.server_core.proofs.server.ServerCore.total.Goals as goal

pub returns-in-Some : goal.returns-in-Some
returns-in-Some c = λ b s h.
    let k = c.in-Some.connection.now in
    c.total.ensures ∙ ap (λ (q : QueueParts). q.total) c.queue.ensures
    ∙ some-total b c.args.self.now s c.args.serial k c.in-Some.ensures (found_serial c.args.serial c.args.self.now.table k (sym c.in-Some.ensures)) h

pub returns-in-None : goal.returns-in-None
returns-in-None c = λ b s h. none-total b c.args.self.now s c.args.serial c.in-None.ensures h
