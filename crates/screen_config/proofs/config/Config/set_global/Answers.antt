use Rattle.std.proofs.Common.{subst, sym}
use Rattle.option_table.specs.Settings.{Values}
use Rattle.screen_config.specs.Sound.{IsSound}
use Rattle.screen_config.proofs.SoundSteps.{sound_global}
use Rattle.screen_config.proofs.config.Config.set_global.Goals as goal

pub invariant_of-self : goal.invariant_of-self
invariant_of-self c =
    subst
    (λ (settings : Values).
    IsSound
    (record {
      screens = c.self.inside.screens;
      aliases = c.self.inside.aliases;
      links = c.self.inside.links;
      settings = settings;
      hotkeys = c.self.inside.hotkeys;
    }))
    (sym c.set.ensures)
    (sound_global _ c.args.option c.args.value c.self.invariant c.requires.stands c.requires.suits)
