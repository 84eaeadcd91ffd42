use Rattle.std.proofs.Common.{sym, ap, ◌∙◌}
use Rattle.send_queue.specs.QueueParts.{QueueParts}
use Rattle.server_core.proofs.Taken.{found_serial, some-untaken, none-untaken}
use Rattle.server_core.proofs.server.ServerCore.queued.Goals as goal

pub returns-in-Some-clause-untaken : goal.returns-in-Some-clause-untaken
returns-in-Some-clause-untaken c = λ b s h.
    let k = c.in-Some.connection.now in
    c.as_slice.ensures ∙ ap (λ (q : QueueParts). q.untaken) c.queue.ensures
    ∙ some-untaken b c.args.self.now s c.args.serial k c.in-Some.ensures (found_serial c.args.serial c.args.self.now.table k (sym c.in-Some.ensures)) h

pub returns-in-None-clause-untaken : goal.returns-in-None-clause-untaken
returns-in-None-clause-untaken c = λ b s h. none-untaken b c.args.self.now s c.args.serial c.in-None.ensures h
