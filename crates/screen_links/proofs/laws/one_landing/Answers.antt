use Rattle.screen_links.proofs.OneLanding as law
use Rattle.screen_links.proofs.laws.one_landing.Goals as goal

pub returns : goal.returns
returns c = law.one_landing
