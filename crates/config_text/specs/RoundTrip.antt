-- A text that spells a configuration's value.
use Rattle.std.specs.Prelude.{◌≡◌, ℕ, List}
use Rattle.config_text.specs.Accepting.{Accepts}
use Rattle.screen_config.specs.Configurations.{Configuration}
use Rattle.screen_config.specs.Values.{value_of}

-- it is accepted, as a configuration of the same value
abbrev pub SpellsAgain : List ℕ → Configuration → Type 0
SpellsAgain text c = (again : Configuration) × Accepts text again × (value_of again ≡ value_of c)
