use Rattle.std.proofs.Common.{None, refl}
use Rattle.client_core.proofs.Streams.{first_client}
use Rattle.client_core.proofs.client.ClientCore.injecting.Goals as goal

pub returns-clause-stands : goal.returns-clause-stands
returns-clause-stands c = first_client c.new.result _ _ None c.new.ensures.represents c.new.ensures.fine c.new.ensures.role c.new-2.ensures.shows refl
