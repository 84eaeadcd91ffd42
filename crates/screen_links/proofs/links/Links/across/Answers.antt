use Rattle.std.proofs.Common.{◌≡◌, ◌∙◌, ◌↔◌, List, Some, subst}
use Rattle.screen_links.specs.declared.link.Link.{Link}
use Rattle.screen_links.specs.declared.link.Landing.{Landing}
use Rattle.screen_links.specs.Walks.{Across}
use Rattle.screen_links.proofs.links.Links.across.Goals as goal

pub returns-clause-walks : goal.returns-clause-walks
returns-clause-walks c =
    subst
    (λ (links : List Link). (landing : Landing)
    → (c.walk.result ≡ Some landing)
    ↔ Across links c.args.joined.now c.args.side
    (record { screen = c.args.from; t = c.args.t }) landing)
    (c.as_slice.ensures.value ∙ c.self.view_is) c.walk.ensures.walks
