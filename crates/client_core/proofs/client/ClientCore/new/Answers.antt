use Rattle.std.proofs.Common.{Some, ap}
use Rattle.client_talk.specs.Talks.{Talk}
use Rattle.client_core.proofs.Streams.{first_client}
use Rattle.client_core.proofs.client.ClientCore.new.Goals as goal

pub returns-clause-stands : goal.returns-clause-stands
returns-clause-stands c = first_client c.new.result _ _ _ c.new.ensures.represents c.new.ensures.fine c.new.ensures.role c.new-2.ensures.shows (ap (λ (t : Talk). Some t) c.new-3.ensures)
