-- What the lines so far have given: the open section, the screen of the header above, and what they
-- hold.
use Rattle.std.specs.Prelude.{ℕ, Option}
use Rattle.config_text.specs.declared.sections.Opened.{Opened}
use Rattle.screen_config.specs.Configurations.{Configuration}

pub record Draft : Type 0 where
  pub opened : Option Opened
  pub header : Option ℕ
  pub config : Configuration
