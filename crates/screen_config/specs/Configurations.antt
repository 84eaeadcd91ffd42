-- What a configuration holds: screens, aliases, links and hotkeys in the order of the text, and the
-- options for all screens.
use Rattle.std.specs.Prelude.{ℕ, List, [], ◌∷◌, ◌++◌, Option, Some, None, slice_get, slice_set}
use Rattle.std.specs.Option.{option_map, option_or}
use Rattle.std.specs.List.{position, find}
use Rattle.share_base.specs.Names.{same_name}
use Rattle.screen_links.specs.declared.link.Link.{Link}
use Rattle.option_table.specs.declared.rows.OptionName.{OptionName}
use Rattle.hotkey_rules.specs.declared.rule.Rule.{Rule}
use Rattle.option_table.specs.Settings.{Values, none_set, with_setting}
use Rattle.screen_config.specs.declared.screens.Screen.{Screen}
use Rattle.screen_config.specs.declared.screens.Alias.{Alias}

pub record Configuration : Type 0 where
  pub screens : List Screen
  pub aliases : List Alias
  pub links : List Link
  pub settings : Values
  pub hotkeys : List Rule

abbrev pub nothing : Configuration
nothing = record { screens = []; aliases = []; links = []; settings = none_set; hotkeys = [] }

-- the place of the screen of that name, and the screen whose alias the name is
abbrev pub screen_place : List Screen → List ℕ → Option ℕ
screen_place screens name = position (λ s. same_name s.name name) screens

abbrev pub alias_place : List Alias → List ℕ → Option ℕ
alias_place aliases name = option_map (λ a. a.screen) (find (λ a. same_name a.name name) aliases)

-- the number of the screen of that name or alias
unfoldable pub screen_of : Configuration → List ℕ → Option ℕ
screen_of c name = option_or (screen_place c.screens name) (alias_place c.aliases name)

-- ---- with something more

abbrev pub with_screen : Configuration → List ℕ → Configuration
with_screen c name =
    record c { screens = c.screens ++ (record { name = name; settings = none_set }) ∷ [] }

abbrev pub with_alias : Configuration → List ℕ → ℕ → Configuration
with_alias c name screen =
    record c { aliases = c.aliases ++ (record { name = name; screen = screen }) ∷ [] }

abbrev pub with_link : Configuration → Link → Configuration
with_link c link = record c { links = c.links ++ link ∷ [] }

abbrev pub with_hotkey : Configuration → Rule → Configuration
with_hotkey c rule = record c { hotkeys = c.hotkeys ++ rule ∷ [] }

abbrev pub with_global : Configuration → OptionName → ℕ → Configuration
with_global c option value = record c { settings = with_setting c.settings option value }

-- the screens, where that one's option is set
abbrev pub screens_with : Option Screen → List Screen → ℕ → OptionName → ℕ → List Screen
screens_with None screens n option value = screens
screens_with (Some s) screens n option value =
    slice_set screens n (record s { settings = with_setting s.settings option value })

unfoldable pub with_own : Configuration → ℕ → OptionName → ℕ → Configuration
with_own c n option value =
    record c { screens = screens_with (slice_get c.screens n) c.screens n option value }
