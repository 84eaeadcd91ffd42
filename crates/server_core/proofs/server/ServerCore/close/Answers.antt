use Rattle.std.specs.Prelude.{◌++◌}
use Rattle.std.proofs.Common.{ap, ◌∙◌}
use Rattle.machine.specs.States.{Closed}
use Rattle.machine.specs.Logs.{log_line}
use Rattle.send_queue.specs.QueueParts.{QueueParts}
use Rattle.server_core.specs.Targets.{IsThere}
use Rattle.server_core.proofs.Closed.{not-open, departs-closed, serves-closed}
use Rattle.server_core.proofs.server.ServerCore.close.Goals as goal

pub returns-in_default-clause-departs : goal.returns-in_default-clause-departs
returns-in_default-clause-departs c = λ front s there h. absurd (not-open (λ t. Unit {0}) h.beside c.args.self.now s c.args.serial c.in_default.ensures there h.leaves)

pub returns-in_default-clause-serves : goal.returns-in_default-clause-serves
returns-in_default-clause-serves c = λ front s there other h. absurd (not-open (λ t. IsThere t t.active) h.beside c.args.self.now s c.args.serial c.in_default.ensures there h.stands)

pub returns-clause-departs : goal.returns-clause-departs
returns-clause-departs c = λ front s there h.
    let k = c.in-Some.connection.now in
    let taken = c.taken-taken.ensures ∙ ap (λ (q : QueueParts). q.taken) c.queue.ensures in
    let queued = c.total-queued.ensures ∙ ap (λ (q : QueueParts). q.total) c.queue-2.ensures in
    let logged = c.in_ok-closed.ensures.ok ∙ ap (λ n. c.args.self.now.log ++ log_line (Closed c.args.serial n c.total-queued.result)) taken ∙ ap (λ n. c.args.self.now.log ++ log_line (Closed c.args.serial k.queue.taken n)) queued in
    departs-closed front c.args.self.now s c.args.serial k c.remove.new.self c.closed.new.self c.in-Some.ensures c.remove.ensures logged h

pub returns-clause-serves : goal.returns-clause-serves
returns-clause-serves c = λ front s there other h.
    let k = c.in-Some.connection.now in
    let taken = c.taken-taken.ensures ∙ ap (λ (q : QueueParts). q.taken) c.queue.ensures in
    let queued = c.total-queued.ensures ∙ ap (λ (q : QueueParts). q.total) c.queue-2.ensures in
    let logged = c.in_ok-closed.ensures.ok ∙ ap (λ n. c.args.self.now.log ++ log_line (Closed c.args.serial n c.total-queued.result)) taken ∙ ap (λ n. c.args.self.now.log ++ log_line (Closed c.args.serial k.queue.taken n)) queued in
    serves-closed front c.args.self.now s c.args.serial k c.remove.new.self c.closed.new.self c.in-Some.ensures c.remove.ensures logged other h
