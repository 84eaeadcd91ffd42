use Rattle.std.specs.Prelude.{◌*◌}
use Rattle.std.proofs.Common.{ap, ◌∙◌}
use Rattle.option_table.specs.declared.rows.OptionName.TheVariants as option
use Rattle.option_table.specs.Settings.{standing}
use Rattle.screen_config.specs.Configurations.{Configuration}
use Rattle.screen_config.specs.declared.globals.Globals.{Globals}
use Rattle.server_core.proofs.server.ServerCore.clip_limit.Goals as goal

pub returns-clause-limit : goal.returns-clause-limit
returns-clause-limit c = λ b s h. ap (λ (g : Globals). g.clipboard_sharing_size * 1024) c.globals.ensures.values ∙ ap (λ (g : Configuration). standing g.settings option.ClipboardSharingSize * 1024) h.config
