use Rattle.client_core.specs.Hearing.{display}
use Rattle.client_core.proofs.Screens.{released}
use Rattle.client_core.proofs.client.ClientCore.ended.Goals as goal

pub returns-clause-released : goal.returns-clause-released
returns-clause-released c = λ k front h. released k.shown _ (c.release_all.ensures.released (display k.shown) front h.hears.shows)
