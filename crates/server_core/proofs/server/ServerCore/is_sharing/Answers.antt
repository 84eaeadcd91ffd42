use Rattle.std.proofs.Common.{ap, ◌∙◌}
use Rattle.option_table.specs.declared.rows.OptionName.TheVariants as option
use Rattle.screen_config.specs.Configurations.{Configuration}
use Rattle.screen_config.specs.declared.globals.Globals.{Globals}
use Rattle.screen_config.specs.Globals.{flag}
use Rattle.server_core.proofs.server.ServerCore.is_sharing.Goals as goal

pub returns : goal.returns
returns c = λ b s h. ap (λ (g : Globals). g.clipboard_sharing) c.globals.ensures.values ∙ ap (λ (g : Configuration). flag g.settings option.ClipboardSharing) h.config
