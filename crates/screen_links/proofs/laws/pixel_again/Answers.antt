use Rattle.screen_links.proofs.Along as law
use Rattle.screen_links.proofs.laws.pixel_again.Goals as goal

pub returns : goal.returns
returns c = law.pixel-place
