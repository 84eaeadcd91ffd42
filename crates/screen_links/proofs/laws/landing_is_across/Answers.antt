use Rattle.screen_links.proofs.LandingAnswers as law
use Rattle.screen_links.proofs.laws.landing_is_across.Goals as goal

pub returns : goal.returns
returns c = law.landing_is_across
