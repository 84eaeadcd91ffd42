-- The value of a configuration: what it holds of each screen, in the order of the text, the options
-- for all, and the hotkeys in the order of the text. The order between aliases of different
-- screens, and between links of different sides or screens, is no part of it.
use Rattle.std.specs.Prelude.{ℕ, Bool, ◌==◌, ◌&&◌, List, [], length, map, filter, Option, Some}
use Rattle.std.specs.Prelude.{None, slice_get}
use Rattle.std.specs.List.{flat_map, filter_map, find, range_with_len}
use Rattle.share_base.specs.declared.shape.Side.{Side}
use Rattle.screen_links.specs.declared.link.Link.{Link}
use Rattle.option_table.specs.Settings.{Values}
use Rattle.hotkey_rules.specs.declared.rule.Rule.{Rule}
use Rattle.screen_config.specs.declared.screens.Screen.{Screen}
use Rattle.screen_config.specs.declared.screens.Alias.{Alias}
use Rattle.screen_config.specs.Configurations.{Configuration}
use Rattle.screen_config.specs.Globals.{own_of}
use Rattle.share_base.specs.Shapes.{same_side}
use Rattle.share_base.specs.Sides.{sides}

-- the numbers of the screens
unfoldable pub numbers_of : Configuration → List ℕ
numbers_of c = range_with_len 0 (length c.screens)

-- the name of a screen, by its number
abbrev pub name_in : Option Screen → List ℕ
name_in None = []
name_in (Some s) = s.name

abbrev pub name_of : Configuration → ℕ → List ℕ
name_of c n = name_in (slice_get c.screens n)

-- the aliases of a screen, in the order of the text
abbrev pub names_screen : ℕ → Alias → Bool
names_screen n a = a.screen == n

abbrev pub aliases_in : Configuration → ℕ → List Alias
aliases_in c n = filter (names_screen n) c.aliases

-- where a link can begin
unfoldable pub hundredths : List ℕ
hundredths = range_with_len 0 100

-- whether a link leaves that side of that screen and begins at that hundredth
abbrev pub begins_at : ℕ → Side → ℕ → Link → Bool
begins_at n side a l = (l.from.0 == n) && same_side l.side side && (l.range.a == a)

abbrev pub link_beginning : Configuration → ℕ → Side → ℕ → Option Link
link_beginning c n side a = find (begins_at n side a) c.links

-- the links of that side of that screen, by where they begin
unfoldable pub links_on : Configuration → ℕ → Side → List Link
links_on c n side = filter_map (link_beginning c n side) hundredths

-- the links of a screen, one side after another
abbrev pub links_in : Configuration → ℕ → List Link
links_in c n = flat_map (links_on c n) sides

-- ---- all of it

-- a screen's name, its own options, its aliases in the order of the text, and for each side its
-- links by where they begin
pub record ScreenValue : Type 0 where
  pub name : List ℕ
  pub settings : Values
  pub aliases : List (List ℕ)
  pub links : List (List Link)

abbrev pub screen_value : Configuration → ℕ → ScreenValue
screen_value c n =
    record {
      name = name_of c n;
      settings = own_of c n;
      aliases = map (λ a. a.name) (aliases_in c n);
      links = map (links_on c n) sides;
    }

pub record ConfigValue : Type 0 where
  pub screens : List ScreenValue
  pub settings : Values
  pub hotkeys : List Rule

unfoldable pub value_of : Configuration → ConfigValue
value_of c =
    record {
      screens = map (screen_value c) (numbers_of c);
      settings = c.settings;
      hotkeys = c.hotkeys;
    }
