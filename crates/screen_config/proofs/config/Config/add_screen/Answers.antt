use Rattle.std.proofs.Common.{List, [], ◌∷◌, ◌++◌, ◌≡◌, None, Result, ap, subst, sym, ◌∙◌}
use Rattle.std.specs.Prelude.{OnOk}
use Rattle.option_table.specs.Settings.{Values}
use Rattle.screen_config.specs.declared.screens.Screen.{Screen}
use Rattle.screen_config.specs.Configurations.{Configuration, screen_of, screen_place, with_screen}
use Rattle.screen_config.specs.Sound.{IsSound}
use Rattle.screen_config.proofs.NamesApart.{unknown_screen}
use Rattle.screen_config.proofs.SoundStarts.{sound_screens}
use Rattle.screen_config.proofs.SoundSteps.{sound_screen}
use Rattle.screen_config.proofs.config.Config.add_screen.Goals as goal

pub push-requires : goal.push-requires
push-requires c =
    ap (λ (k : Configuration). screen_place k.screens c.args.name) c.self.view_is
    ∙ unknown_screen c.args.self.now c.args.name c.requires.unknown

pub invariant_of-self : goal.invariant_of-self
invariant_of-self c =
    let old : IsSound c.args.self.now = subst IsSound c.self.view_is c.self.invariant in
    let new =
    sound_screen c.args.self.now c.args.name old c.requires.room c.requires.named
    c.requires.unknown in
    let pushed =
    subst
    (λ (v : Values).
    OnOk c.push.result
    (c.push.new.self
    ≡ c.self.inside.screens
    ++ (record { name = c.args.name; settings = v }) ∷ []))
    c.new.ensures c.push.ensures.ok in
    sound_screens c.push.result _ c.args.name c.push.new.self pushed c.push.ensures.err
    c.self.invariant
    (subst (λ (k : Configuration). IsSound (with_screen k c.args.name)) (sym c.self.view_is) new)
