-- The faults of a line's words, in the order in which they are looked for: a name that is none,
-- then the rest, then ranges, then an overlap, then a limit. Of two of one class the one further to
-- the left comes first.
use Rattle.std.specs.Prelude.{ℕ, Bool, true, false, not, ◌==◌, ◌&&◌, nat_lt, nat_le, min, max}
use Rattle.std.specs.Prelude.{length, Result, Ok, Err, Option, Some, None, is_none}
use Rattle.std.specs.List.{list_any}
use Rattle.share_base.specs.declared.numbers.ScreenNo.{ScreenNo}
use Rattle.share_base.specs.Shapes.{same_side}
use Rattle.share_base.specs.Names.{is_name}
use Rattle.text_lines.specs.Reading.{◌>>=◌, Text}
use Rattle.screen_links.specs.Adding.{link_of}
use Rattle.screen_links.specs.declared.link.Link.{Link}
use Rattle.screen_links.specs.declared.range.Range.{Range}
use Rattle.option_table.specs.declared.rows.Scope.{Scope}
use Rattle.option_table.specs.Table.{option_named, row_of}
use Rattle.option_table.specs.Values.{value_of}
use Rattle.config_text.specs.declared.faults.ConfigKind.{ConfigKind}
use Rattle.config_text.specs.declared.faults.ConfigKind.TheVariants as kind
use Rattle.config_text.specs.declared.faults.Fault.{Fault}
use Rattle.config_text.specs.declared.words.Setting.{Setting}
use Rattle.screen_config.specs.Configurations.{Configuration, screen_of, with_screen, with_alias}
use Rattle.screen_config.specs.Configurations.{with_link}
use Rattle.config_text.specs.Shapes.{RangeText, LinkText, SettingText}
use Rattle.share_base.specs.declared.screen_set.TheConstants.{MOST_SCREENS}
use Rattle.screen_config.specs.declared.config.TheConstants.{MOST_ALIASES}

abbrev pub fault_at : ConfigKind → ℕ → Fault
fault_at k left = record { kind = k; left = left }

abbrev pub unless : Bool → ConfigKind → ℕ → Result (Unit {0}) Fault
unless true k left = Ok tt
unless false k left = Err (fault_at k left)

abbrev pub or_fault : {A : Type 0} → Option A → ConfigKind → ℕ → Result A Fault
or_fault (Some a) k left = Ok a
or_fault None k left = Err (fault_at k left)

-- a form that can't go on is a bad line there
abbrev pub formed : {A : Type 0} → Result A ℕ → Result A Fault
formed (Ok a) = Ok a
formed (Err left) = Err (fault_at kind.BadLine left)

-- ---- names, where `whole` bytes stand in the line

unfoldable pub known_screen : Configuration → Text → Result ℕ Fault
known_screen c name = do
  _ ← unless (is_name name.text) kind.BadName name.left
  or_fault (screen_of c name.text) kind.UnknownScreen name.left

unfoldable pub new_screen : ℕ → Configuration → Text → Result Configuration Fault
new_screen whole c name = do
  _ ← unless (is_name name.text) kind.BadName name.left
  _ ← unless (is_none (screen_of c name.text)) kind.DuplicateScreen name.left
  _ ← unless (nat_lt (length c.screens) MOST_SCREENS) kind.TooMany whole
  Ok (with_screen c name.text)

unfoldable pub new_alias : ℕ → Configuration → ℕ → Text → Result Configuration Fault
new_alias whole c screen name = do
  _ ← unless (is_name name.text) kind.BadName name.left
  _ ← unless (is_none (screen_of c name.text)) kind.DuplicateAlias name.left
  _ ← unless (nat_lt (length c.aliases) MOST_ALIASES) kind.TooMany whole
  Ok (with_alias c name.text screen)

-- ---- links

abbrev pub screen_no : ℕ → ScreenNo
screen_no n = record { 0 = n }

abbrev pub range_of : ℕ → ℕ → Range
range_of a b = record { a = a; b = b }

unfoldable pub good_range : Option RangeText → Result Range Fault
good_range None = Ok (range_of 0 100)
good_range (Some r) = do
  _ ← unless (nat_lt r.a r.b && nat_le r.b 100) kind.BadRange r.left
  Ok (range_of r.a r.b)

-- they stand on one side of one screen, and share a hundredth of it
unfoldable pub overlaps : Link → Link → Bool
overlaps l k =
    (l.from.0 == k.from.0) && same_side l.side k.side
    && nat_lt (max l.range.a k.range.a) (min l.range.b k.range.b)

-- the link, whose side stands there, overlaps none of its side, and there is room for it
unfoldable pub one_link_more : ℕ → Configuration → ℕ → Link → Result Configuration Fault
one_link_more whole c left link = do
  _ ← unless (not (list_any (overlaps link) c.links)) kind.Overlap left
  _ ← unless (nat_lt (length c.links) 1024) kind.TooMany whole
  Ok (with_link c link)

unfoldable pub new_link : ℕ → Configuration → ℕ → LinkText → Result Configuration Fault
new_link whole c from l = do
  to ← known_screen c l.name
  range ← good_range l.source
  onto ← good_range l.target
  one_link_more whole c l.left (link_of (screen_no from) l.side range (screen_no to) onto)

-- ---- options

unfoldable pub new_setting : (Scope → Bool) → SettingText → Result Setting Fault
new_setting stands s = do
  option ← or_fault (option_named s.key.text) kind.UnknownOption s.key.left
  _ ← unless (stands (row_of option).scope) kind.UnknownOption s.key.left
  value ← or_fault (value_of (row_of option).form s.value.text) kind.BadValue s.value.left
  Ok (record { option = option; value = value })
