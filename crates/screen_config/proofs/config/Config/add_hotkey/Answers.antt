use Rattle.std.proofs.Common.{◌≡◌, true, length, subst, sym}
use Rattle.std.specs.List.{list_all}
use Rattle.screen_config.specs.Configurations.{Configuration}
use Rattle.screen_config.specs.SoundHotkeys.{is_action_among}
use Rattle.screen_config.proofs.SoundStarts.{sound_hotkey}
use Rattle.screen_config.proofs.config.Config.add_hotkey.Goals as goal

pub invariant_of-self : goal.invariant_of-self
invariant_of-self c =
    let press =
    subst
    (λ (k : Configuration). list_all (is_action_among (length k.screens)) c.args.press.now
    ≡ true)
    (sym c.self.view_is) c.requires.press in
    let release =
    subst
    (λ (k : Configuration). list_all (is_action_among (length k.screens)) c.args.release.now
    ≡ true)
    (sym c.self.view_is) c.requires.release in
    sound_hotkey c.add.result _ c.args.trigger c.args.press.now c.args.release.now c.add.new.self
    c.add.ensures c.self.invariant c.requires.trigger press release
