use Rattle.std.proofs.Common.{◌<◌, List, length, ap, subst, sym, ◌∙◌}
use Rattle.screen_config.specs.declared.screens.Screen.{Screen}
use Rattle.screen_config.specs.Configurations.{Configuration, with_own}
use Rattle.screen_config.proofs.SoundSteps.{sound_own}
use Rattle.screen_config.proofs.config.Config.set_own.Goals as goal

pub invariant_of-self : goal.invariant_of-self
invariant_of-self c =
    let within =
    subst (λ (k : Configuration). c.args.screen < length k.screens) (sym c.self.view_is)
    c.requires.known in
    sound_own _ c.args.screen c.args.option c.args.value c.set.new.self c.self.invariant within
    c.requires.stands c.requires.suits c.set.ensures

pub returns-clause-set : goal.returns-clause-set
unfolding with_own
returns-clause-set c =
    let inside = c.self.inside in
    ap
    (λ (screens : List Screen).
    let k : Configuration =
    record {
      screens = screens;
      aliases = inside.aliases;
      links = inside.links;
      settings = inside.settings;
      hotkeys = inside.hotkeys;
    }
    in
    k)
    c.set.ensures
    ∙ ap (λ (k : Configuration). with_own k c.args.screen c.args.option c.args.value) c.self.view_is
