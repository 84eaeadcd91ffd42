use Rattle.client_core.proofs.hearer.converse.Goals as goal

pub returns-in-Leave-clause-shown : goal.returns-in-Leave-clause-shown
returns-in-Leave-clause-shown c = rw c.in-Leave.is c.leave.ensures.shown
