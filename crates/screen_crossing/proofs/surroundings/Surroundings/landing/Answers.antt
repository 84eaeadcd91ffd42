use Rattle.std.proofs.Common.{ℕ, List, ap, ◌∙◌, subst}
use Rattle.share_base.specs.Screens.{has}
use Rattle.screen_links.specs.declared.link.Link.{Link}
use Rattle.screen_links.specs.declared.link.Landing.{Landing}
use Rattle.screen_links.specs.Places.{place_of}
use Rattle.screen_links.specs.Landings.{landing_across}
use Rattle.screen_links.specs.Walks.{Lands}
use Rattle.screen_links.proofs.LandingAnswers.{landing_is_across}
use Rattle.screen_crossing.proofs.Shown.{same_option, landing_shown}
use Rattle.screen_crossing.proofs.surroundings.Surroundings.landing.Goals as goal

pub returns-clause-landing : goal.returns-clause-landing
returns-clause-landing c = λ s shows.
    let from : Landing = record { screen = c.args.self.now.screen; t = c.place-t.result } in
    let law : Lands c.args.config.now.links c.args.self.now.joined c.args.edge.side from (landing_across c.args.config.now.links (has c.args.self.now.joined) c.args.edge.side from) =
    landing_is_across c.args.config.now.links c.args.self.now.joined c.args.edge.side from c.assure_sound.ensures.links c.requires.placed.screen in
    let walks : Lands c.args.config.now.links c.args.self.now.joined c.args.edge.side from c.across.result =
    subst (λ (links : List Link). Lands links c.args.self.now.joined c.args.edge.side from c.across.result) c.links.ensures c.across.ensures.walks in
    same_option _ _ (λ l. (λ e. (law l).1 ((walks l).0 e), λ e. (walks l).1 ((law l).0 e)))
    ∙ ap (λ (t : ℕ). landing_across c.args.config.now.links (has c.args.self.now.joined) c.args.edge.side (record { screen = c.args.self.now.screen; t = t })) (c.place-t.ensures.value ∙ ap (place_of c.args.edge.p) c.side_pixels.ensures.value)
    ∙ landing_shown c.args.self.now c.args.config.now s shows c.args.edge
