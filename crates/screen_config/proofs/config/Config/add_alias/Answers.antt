use Rattle.std.proofs.Common.{List, ap, subst, sym, ◌∙◌}
use Rattle.std.specs.List.{position}
use Rattle.share_base.specs.Names.{same_name}
use Rattle.screen_config.specs.Configurations.{Configuration, with_alias}
use Rattle.screen_config.specs.Sound.{IsSound}
use Rattle.screen_config.proofs.NamesApart.{unknown_alias}
use Rattle.screen_config.proofs.SoundStarts.{sound_aliases}
use Rattle.screen_config.proofs.SoundSteps.{sound_alias}
use Rattle.screen_config.proofs.config.Config.add_alias.Goals as goal

pub push-requires : goal.push-requires
push-requires c =
    ap (λ (k : Configuration). position (λ a. same_name a.name c.args.name) k.aliases)
    c.self.view_is
    ∙ unknown_alias c.args.self.now c.args.name c.requires.unknown

pub invariant_of-self : goal.invariant_of-self
invariant_of-self c =
    let old : IsSound c.args.self.now = subst IsSound c.self.view_is c.self.invariant in
    let new =
    sound_alias c.args.self.now c.args.name c.args.screen old c.requires.room c.requires.known
    c.requires.named c.requires.no_end c.requires.unknown in
    sound_aliases c.push.result _ c.args.name c.args.screen c.push.new.self c.push.ensures.ok
    c.push.ensures.err c.self.invariant
    (subst (λ (k : Configuration). IsSound (with_alias k c.args.name c.args.screen))
    (sym c.self.view_is) new)
