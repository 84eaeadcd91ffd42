use Rattle.std.proofs.Common.{◌<◌, length, subst, sym, ◌∙◌}
use Rattle.screen_config.specs.Configurations.{Configuration}
use Rattle.screen_config.proofs.Bounds.{alias_known}
use Rattle.screen_config.proofs.config.Config.find.Goals as goal

pub returns-in-Some-screen_of_alias-clause-known : goal.returns-in-Some-screen_of_alias-clause-known
returns-in-Some-screen_of_alias-clause-known c =
    let below =
    alias_known (length c.self.inside.screens) c.self.inside.aliases c.args.name.now
    c.in-Some-screen_of_alias.screen c.self.invariant.of_screens
    (sym c.in-Some-screen_of_alias.is ∙ c.screen_of_alias.ensures) in
    subst (λ (k : Configuration). c.in-Some-screen_of_alias.screen < length k.screens)
    c.self.view_is below
