-- The words of a line, by the section in which it stands.
use Rattle.std.specs.Prelude.{ℕ, ◌-◌, Bool, not, ◌==◌, ◌&&◌, if◌then◌else◌, List, [], ◌∷◌, length}
use Rattle.std.specs.Prelude.{Result, Ok, Err, Option, Some, None, codes, slice_index}
use Rattle.std.specs.List.{list_any, find}
use Rattle.std.specs.Str.{bytes_eq}
use Rattle.text_lines.specs.Reading.{◌>>=◌}
use Rattle.option_table.specs.Scopes.{stands_below_screen, stands_for_all}
use Rattle.config_text.specs.declared.faults.ConfigKind.TheVariants as kind
use Rattle.config_text.specs.declared.faults.Fault.{Fault}
use Rattle.config_text.specs.declared.sections.Section.{Section}
use Rattle.config_text.specs.declared.sections.Section.TheVariants as section
use Rattle.config_text.specs.declared.sections.Opened.{Opened}
use Rattle.config_text.specs.Drafts.{Draft}
use Rattle.hotkey_text.specs.Shapes.{is_hotkey, hotkey_at}
use Rattle.screen_config.specs.Configurations.{Configuration, with_global, with_own}
use Rattle.config_text.specs.Hotkeys.{new_hotkey}
use Rattle.config_text.specs.Shapes.{section_at, header_at, alias_at, link_at, setting_at}
use Rattle.screen_config.specs.Sound.{is_end}
use Rattle.config_text.specs.Judging.{fault_at, or_fault, formed, known_screen, new_screen}
use Rattle.config_text.specs.Judging.{new_alias, new_link, new_setting}

abbrev pub section_text : Section → List ℕ
section_text section.Screens = codes "screens"
section_text section.Aliases = codes "aliases"
section_text section.Links = codes "links"
section_text section.Options = codes "options"

abbrev pub sections : List Section
sections = section.Screens ∷ section.Aliases ∷ section.Links ∷ section.Options ∷ []

unfoldable pub section_named : List ℕ → Option Section
section_named word = find (λ s. bytes_eq (section_text s) word) sections

abbrev pub opened_as : Section → ℕ → ℕ → Opened
opened_as s line column = record { section = s; line = line; column = column }

-- outside sections a line opens one
unfoldable pub outside : ℕ → ℕ → Draft → List ℕ → Result Draft Fault
outside line column d xs = do
  name ← formed (section_at xs)
  s ← or_fault (section_named name.text) kind.UnknownSection name.left
  Ok (record d { opened = Some (opened_as s line column); header = None })

-- a header's last byte is : and it has no =
unfoldable pub is_header : List ℕ → Bool
is_header xs = (slice_index xs (length xs - 1) == 58) && not (list_any (λ b. b == 61) xs)

-- the screen of the header above, without which the line is bad from its first byte on
abbrev pub under : Option ℕ → List ℕ → Result ℕ Fault
under header xs = or_fault header kind.BadLine (length xs)

abbrev pub holding : Draft → Configuration → Draft
holding d c = record d { config = c }

-- a new screen's header
unfoldable pub screen_header : Draft → List ℕ → Result Draft Fault
screen_header d xs = do
  name ← formed (header_at xs)
  c ← new_screen (length xs) d.config name
  Ok (record d { header = Some (length d.config.screens); config = c })

-- a known screen's header
unfoldable pub known_header : Draft → List ℕ → Result Draft Fault
known_header d xs = do
  name ← formed (header_at xs)
  screen ← known_screen d.config name
  Ok (record d { header = Some screen })

unfoldable pub screen_line : Draft → List ℕ → Result Draft Fault
screen_line d xs = do
  screen ← under d.header xs
  text ← formed (setting_at xs)
  s ← new_setting stands_below_screen text
  Ok (holding d (with_own d.config screen s.option s.value))

unfoldable pub alias_line : Draft → List ℕ → Result Draft Fault
alias_line d xs = do
  screen ← under d.header xs
  name ← formed (alias_at xs)
  c ← new_alias (length xs) d.config screen name
  Ok (holding d c)

unfoldable pub link_line : Draft → List ℕ → Result Draft Fault
link_line d xs = do
  screen ← under d.header xs
  text ← formed (link_at xs)
  c ← new_link (length xs) d.config screen text
  Ok (holding d c)

-- an option for all screens
unfoldable pub global_line : Draft → List ℕ → Result Draft Fault
global_line d xs = do
  text ← formed (setting_at xs)
  s ← new_setting stands_for_all text
  Ok (holding d (with_global d.config s.option s.value))

unfoldable pub hotkey_line : Draft → List ℕ → Result Draft Fault
hotkey_line d xs = do
  form ← formed (hotkey_at xs)
  c ← new_hotkey (length xs) d.config form
  Ok (holding d c)

abbrev pub option_line : Draft → List ℕ → Result Draft Fault
option_line d xs = if is_hotkey xs then hotkey_line d xs else global_line d xs

unfoldable pub in_section : Section → Draft → List ℕ → Result Draft Fault
in_section section.Screens d xs = if is_header xs then screen_header d xs else screen_line d xs
in_section section.Aliases d xs = if is_header xs then known_header d xs else alias_line d xs
in_section section.Links d xs = if is_header xs then known_header d xs else link_line d xs
in_section section.Options d xs =
    if is_header xs then Err (fault_at kind.BadLine (length xs)) else option_line d xs

-- inside a section `end` alone closes it
abbrev pub inside : Option Opened → ℕ → ℕ → Draft → List ℕ → Result Draft Fault
inside None line column d xs = outside line column d xs
inside (Some o) line column d xs =
    if is_end xs then Ok (record d { opened = None; header = None }) else in_section o.section d xs

-- the words of a line, which are not empty
unfoldable pub words_in : ℕ → ℕ → Draft → List ℕ → Result Draft Fault
words_in line column d xs = inside d.opened line column d xs
