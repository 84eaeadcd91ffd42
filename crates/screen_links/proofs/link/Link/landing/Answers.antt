use Rattle.screen_links.proofs.Along.{landing_lt}
use Rattle.screen_links.proofs.link.Link.landing.Goals as goal

pub returns-clause-bound : goal.returns-clause-bound
returns-clause-bound c =
    landing_lt c.args.self.now.range.a c.args.self.now.range.b c.args.self.now.onto.a
    c.args.self.now.onto.b c.args.t c.requires.good.0.some c.requires.good.1.some
    c.requires.good.1.within c.requires.holds.from_its_start c.requires.holds.before_its_end
