use Rattle.client_core.proofs.Streams.{pending_is}
use Rattle.client_core.proofs.client.ClientCore.pending.Goals as goal

pub returns-in-None-clause-goes : goal.returns-in-None-clause-goes
returns-in-None-clause-goes c = λ none. pending_is c.args.self.now c.pending.result none c.pending.ensures
