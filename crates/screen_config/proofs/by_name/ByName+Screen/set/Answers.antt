use Rattle.std.proofs.Common.{List, Option, refl, ap, sym, ◌∙◌}
use Rattle.std.specs.Prelude.{slice_get, slice_set}
use Rattle.std.specs.Map.{values_of}
use Rattle.option_table.specs.Settings.{Values}
use Rattle.screen_config.specs.declared.screens.Screen.{Screen}
use Rattle.screen_config.specs.Configurations.{screens_with}
use Rattle.screen_config.proofs.Keyed.{keyed_set, values_set}
use Rattle.screen_config.proofs.by_name.ByName+Screen.set.Goals as goal

pub invariant_of-self : goal.invariant_of-self
invariant_of-self c =
    keyed_set (λ (s : Screen). s.name) c.self.inside.values.entries c.args.index
    c.index_mut-screen.result.now _ c.index_mut-screen.ensures.value refl c.self.invariant

pub returns : goal.returns
returns c =
    let screens = values_of c.self.inside.values.entries in
    values_set c.self.inside.values.entries c.args.index _
    ∙ ap
    (λ (v : Values).
    slice_set screens c.args.index
    (record { name = c.index_mut-screen.result.now.name; settings = v }))
    c.set.ensures
    ∙ ap (λ (o : Option Screen). screens_with o screens c.args.index c.args.option c.args.value)
    (sym c.index_mut-screen.ensures.value)
    ∙ ap
    (λ (s : List Screen).
    screens_with (slice_get s c.args.index) s c.args.index c.args.option c.args.value)
    c.self.view_is
