-- What a script's lines need to know of a configuration: its screens, by name.
use Rattle.std.specs.Prelude.{ℕ, List, Option, length}
use Rattle.screen_config.specs.Configurations.{Configuration, screen_of}

abbrev pub KnownScreens : Type 0
KnownScreens = Configuration

-- the number of the screen of that name or alias
abbrev pub screen_named : KnownScreens → List ℕ → Option ℕ
screen_named config name = screen_of config name

-- how many screens there are
abbrev pub screen_count : KnownScreens → ℕ
screen_count config = length config.screens
