-- What every configuration keeps: its limits, that each screen's number in it is that of a screen,
-- that its names are names and apart, that no alias is `end`, whose line closes a section, that its
-- options are set where they may stand, and what links and hotkeys keep.
use Rattle.std.specs.Prelude.{◌≡◌, ℕ, ◌≤◌, Bool, true, not, ◌&&◌, nat_lt, List, [], ◌∷◌, ◌++◌}
use Rattle.std.specs.Prelude.{length, map, codes}
use Rattle.std.specs.List.{list_all, list_any}
use Rattle.std.specs.Str.{bytes_eq}
use Rattle.share_base.specs.Names.{is_name, same_name}
use Rattle.screen_links.specs.declared.link.Link.{Link}
use Rattle.screen_links.specs.Apart.{AreSound}
use Rattle.option_table.specs.Scopes.{are_settings, stands_below_screen, stands_for_all}
use Rattle.share_base.specs.declared.screen_set.TheConstants.{MOST_SCREENS}
use Rattle.screen_config.specs.declared.config.TheConstants.{MOST_ALIASES}
use Rattle.screen_config.specs.declared.screens.Screen.{Screen}
use Rattle.screen_config.specs.declared.screens.Alias.{Alias}
use Rattle.screen_config.specs.Configurations.{Configuration}
use Rattle.screen_config.specs.SoundHotkeys.{AreHotkeys}

abbrev pub alias_below : ℕ → Alias → Bool
alias_below count a = nat_lt a.screen count

abbrev pub link_below : ℕ → Link → Bool
link_below count l = nat_lt l.from.0 count && nat_lt l.to.0 count

-- the names of screens and aliases
abbrev pub all_names : Configuration → List (List ℕ)
all_names c = map (λ s. s.name) c.screens ++ map (λ a. a.name) c.aliases

-- no two of them are the same name
abbrev pub apart : List (List ℕ) → Bool
apart [] = true
apart (name ∷ names) = not (list_any (same_name name) names) && apart names

-- the line that closes a section
abbrev pub is_end : List ℕ → Bool
is_end xs = bytes_eq xs (codes "end")

abbrev pub has_own_settings : Screen → Bool
has_own_settings s = are_settings stands_below_screen s.settings

pub record IsSound (c : Configuration) : Type 0 where
  pub screens : length c.screens ≤ MOST_SCREENS
  pub aliases : length c.aliases ≤ MOST_ALIASES
  pub of_screens : list_all (alias_below (length c.screens)) c.aliases ≡ true
  pub between_screens : list_all (link_below (length c.screens)) c.links ≡ true
  pub named : list_all is_name (all_names c) ≡ true
  pub names_apart : apart (all_names c) ≡ true
  pub no_end : list_all (λ a. not (is_end a.name)) c.aliases ≡ true
  pub own : list_all has_own_settings c.screens ≡ true
  pub for_all : are_settings stands_for_all c.settings ≡ true
  pub links : AreSound c.links
  pub hotkeys : AreHotkeys (length c.screens) c.hotkeys
