use Rattle.std.proofs.Common.{◌<◌, length, subst, sym}
use Rattle.screen_config.specs.Configurations.{Configuration}
use Rattle.screen_config.proofs.SoundStarts.{sound_added}
use Rattle.screen_config.proofs.config.Config.add_link.Goals as goal

pub invariant_of-self : goal.invariant_of-self
invariant_of-self c =
    let leaves =
    subst (λ (k : Configuration). c.args.link.from.0 < length k.screens) (sym c.self.view_is)
    c.requires.leaves in
    let enters =
    subst (λ (k : Configuration). c.args.link.to.0 < length k.screens) (sym c.self.view_is)
    c.requires.enters in
    sound_added c.add.result _ c.args.link c.add.new.self c.add.ensures c.self.invariant leaves
    enters
