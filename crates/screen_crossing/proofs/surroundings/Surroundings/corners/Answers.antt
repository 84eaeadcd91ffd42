use Rattle.std.specs.Prelude.{Option, length, ◌≤◌, unwrap_or}
use Rattle.std.proofs.Common.{sym, ap, ◌∙◌, arith}
use Rattle.std.proofs.lemmas.Option.{slice_get_past}
use Rattle.share_base.specs.declared.corners.Corners.{Corners}
use Rattle.option_table.specs.declared.rows.OptionName.TheVariants as option
use Rattle.option_table.specs.Settings.{setting, standing}
use Rattle.screen_config.specs.declared.globals.Globals.{Globals}
use Rattle.screen_config.specs.declared.screens.Screen.{Screen}
use Rattle.screen_config.specs.Globals.{own_in}
use Rattle.screen_crossing.proofs.surroundings.Surroundings.corners.Goals as goal

abbrev corners : Globals → Corners
corners g = record { set = g.switch_corners; size = g.switch_corner_size }

pub returns : goal.returns
returns c =
    let past : length c.args.config.now.screens ≤ c.args.self.now.screen.0 = omega (arith, c.count.ensures.count, c.if-self-count.false) in
    ap corners c.globals-globals.ensures.values
    ∙ ap (λ (own : Option Screen). record { set = unwrap_or (setting (own_in own) option.SwitchCorners) (standing c.args.config.now.settings option.SwitchCorners); size = unwrap_or (setting (own_in own) option.SwitchCornerSize) (standing c.args.config.now.settings option.SwitchCornerSize) })
    (sym (slice_get_past c.args.config.now.screens c.args.self.now.screen.0 past))
