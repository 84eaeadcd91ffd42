use Rattle.client_core.proofs.ToldWholes.{told-injecting, told-joining}
use Rattle.client_core.proofs.laws.wholes_are_told.Goals as goal

pub returns-clause-injecting : goal.returns-clause-injecting
returns-clause-injecting c = told-injecting

pub returns-clause-joining : goal.returns-clause-joining
returns-clause-joining c = told-joining
