-- A printed configuration is short enough to be read.
use Rattle.std.proofs.Common.{◌≡◌, ℕ, ◌+◌, ◌-◌, ◌*◌, ◌^◌, ◌<◌, ◌≤◌, Bool, true, false, ◌&&◌, ◌==◌}
use Rattle.std.proofs.Common.{List, [], ◌∷◌, ◌++◌, length, map, Option, Some, None, refl, sym}
use Rattle.std.proofs.Common.{◌∙◌, length-append, arith}
use Rattle.std.specs.Prelude.{codes}
use Rattle.std.specs.List.{flat_map, list_all}
use Rattle.std.specs.Fmt.{decimal}
use Rattle.std.proofs.lemmas.Bool.{and_parts}
use Rattle.std.proofs.lemmas.Fmt.{length-decimal-le}
use Rattle.std.proofs.lemmas.List.Elements.{All-contains}
use Rattle.std.proofs.lemmas.List.Folds.{list_all-map}
use Rattle.share_base.specs.declared.shape.Side.{Side}
use Rattle.share_base.specs.Names.{is_name}
use Rattle.share_base.specs.Sides.{side_text, sides}
use Rattle.share_base.proofs.ListTests.{all_parts}
use Rattle.screen_links.specs.declared.link.Link.{Link}
use Rattle.screen_links.specs.declared.range.Range.{Range}
use Rattle.screen_links.specs.Adding.{HasGoodRanges}
use Rattle.screen_links.specs.Ranges.{IsGood}
use Rattle.option_table.specs.Scopes.{stands_below_screen, stands_for_all}
use Rattle.option_table.specs.Printed.{option_lines}
use Rattle.hotkey_rules.proofs.FirstFound.{found_listed}
use Rattle.screen_config.specs.declared.screens.Screen.{Screen}
use Rattle.screen_config.specs.declared.screens.Alias.{Alias}
use Rattle.screen_config.specs.Configurations.{Configuration}
use Rattle.config_text.specs.Normal.{one_tab, two_tabs, header_text, block_text, section_of}
use Rattle.config_text.specs.Normal.{screen_text, screens_text, alias_text, aliases_of}
use Rattle.config_text.specs.Normal.{aliases_text, range_text, link_text, maybe_link, link_at}
use Rattle.config_text.specs.Normal.{side_links, links_of, links_text, hotkeys_text, options_text}
use Rattle.config_text.specs.Normal.{normal}
use Rattle.screen_config.specs.Sound.{IsSound, has_own_settings}
use Rattle.screen_config.specs.Values.{names_screen, numbers_of, name_of, hundredths, begins_at}
use Rattle.screen_config.specs.Values.{link_beginning}
use Rattle.hotkey_text.proofs.ActionLengths.{side_short}
use Rattle.config_text.proofs.FlatMapLengths.{short_within, each_within}
use Rattle.config_text.proofs.HotkeyLengths.{hotkeys_short}
use Rattle.config_text.proofs.KnownAgain.{names_of, sound_names}
use Rattle.share_base.proofs.NameBytes.{is_name_short}
use Rattle.config_text.proofs.NameLengths.{name_short}
use Rattle.config_text.proofs.Numbers.{count_of_numbers, count_of_hundredths}
use Rattle.config_text.proofs.OptionLengths.{option_lines_short}

-- ---- headers and sections

header_short : (name : List ℕ) → length name ≤ 255 → length (header_text name) ≤ 258
unfolding header_text
header_short name h =
    omega (arith, length-append (one_tab ++ name) (58 ∷ 10 ∷ []), length-append one_tab name)

block_short : (name below : List ℕ) → length name ≤ 255
    → length (block_text name below) ≤ 258 + length below
block_short name [] h = omega arith
block_short name (b ∷ below) h =
    omega (arith, length-append (header_text name) (b ∷ below), header_short name h)

section_short : (name below : List ℕ) → length name ≤ 7
    → length (section_of name below) ≤ 21 + length below
unfolding section_of
section_short name below h =
    omega (
      arith,
      length-append ((codes "section: " ++ name) ++ 10 ∷ []) (below ++ (codes "end" ++ 10 ∷ [])),
      length-append (codes "section: " ++ name) (10 ∷ []),
      length-append (codes "section: ") name,
      length-append below (codes "end" ++ 10 ∷ []),
    )

-- ---- screens

screen_short : (s : Screen) → is_name s.name ≡ true → has_own_settings s ≡ true
    → length (screen_text s) ≤ 3000
unfolding screen_text
screen_short s named own =
    omega (
      arith,
      length-append (header_text s.name) (option_lines two_tabs s.settings),
      header_short s.name (is_name_short s.name named),
      option_lines_short stands_below_screen two_tabs s.settings (omega arith) own,
    )

each_screen_short : (screens : List Screen) → list_all is_name (names_of screens) ≡ true
    → list_all has_own_settings screens ≡ true
    → length (flat_map screen_text screens) ≤ 3000 * length screens
each_screen_short [] named own = omega arith
each_screen_short (s ∷ ss) named own =
    let n = and_parts (is_name s.name) (list_all is_name (names_of ss)) named in
    let o = and_parts (has_own_settings s) (list_all has_own_settings ss) own in
    omega (
      arith,
      length-append (screen_text s) (flat_map screen_text ss),
      screen_short s n.0 o.0,
      each_screen_short ss n.1 o.1,
    )

screens_short : (c : Configuration) → IsSound c → length (screens_text c) ≤ 192000
screens_short c s =
    omega (arith, each_screen_short c.screens (sound_names c s).named s.own, s.screens)

-- ---- aliases

alias_short : (t : Bool) (n : ℕ) (a : Alias) → names_screen n a ≡ t → is_name a.name ≡ true
    → length (alias_text n a) ≤ 300
unfolding alias_text
alias_short true n a e h =
    rw e
    (omega (
      arith,
      length-append (two_tabs ++ a.name) (10 ∷ []),
      length-append two_tabs a.name,
      is_name_short a.name h,
    ))
alias_short false n a e h = rw e (omega arith)

aliases_named : (c : Configuration) → IsSound c → list_all (λ a. is_name a.name) c.aliases ≡ true
aliases_named c s =
    sym (list_all-map is_name (λ (a : Alias). a.name) c.aliases)
    ∙ (all_parts is_name (names_of c.screens) (map (λ (a : Alias). a.name) c.aliases) s.named).1

aliases_of_short : (c : Configuration) (n : ℕ) → IsSound c → length (aliases_of c n) ≤ 80000
unfolding aliases_of
aliases_of_short c n s =
    omega (
      arith,
      block_short (name_of c n) (flat_map (alias_text n) c.aliases) (name_short c n s),
      short_within (alias_text n) 300 256 (λ a. is_name a.name) c.aliases
          (λ a h. alias_short (names_screen n a) n a refl h) (aliases_named c s) s.aliases,
    )

few_numbers : (c : Configuration) → IsSound c → length (numbers_of c) ≤ 64
few_numbers c s = omega (arith, count_of_numbers c, s.screens)

aliases_short : (c : Configuration) → IsSound c → length (aliases_text c) ≤ 5120000
aliases_short c s =
    each_within (aliases_of c) 80000 64 (numbers_of c) (λ n. aliases_of_short c n s)
    (few_numbers c s)

-- ---- links

range_short : (t : Bool) (r : Range) → ((r.a == 0) && (r.b == 100)) ≡ t → IsGood r
    → length (range_text r) ≤ 9
unfolding range_text
range_short true r e g = rw e (omega arith)
range_short false r e g =
    rw e (omega (
      arith,
      length-append (((codes "(" ++ decimal r.a) ++ codes ",") ++ decimal r.b) (codes ")"),
      length-append ((codes "(" ++ decimal r.a) ++ codes ",") (decimal r.b),
      length-append (codes "(" ++ decimal r.a) (codes ","),
      length-append (codes "(") (decimal r.a),
      length-decimal-le 3 r.a (omega arith) (omega (arith, g.some, g.within))
          (omega (arith, g.some, g.within)),
      length-decimal-le 3 r.b (omega arith) (omega (arith, g.within)) (omega (arith, g.within)),
    ))

link_short : (c : Configuration) (l : Link) → IsSound c → HasGoodRanges l
    → length (link_text c l) ≤ 300
unfolding link_text
link_short c l s good =
    let side = side_text l.side in
    let range = range_text l.range in
    let name = name_of c l.to.0 in
    let onto = range_text l.onto in
    omega (
      arith,
      length-append (((((two_tabs ++ side) ++ range) ++ codes " = ") ++ name) ++ onto) (10 ∷ []),
      length-append ((((two_tabs ++ side) ++ range) ++ codes " = ") ++ name) onto,
      length-append (((two_tabs ++ side) ++ range) ++ codes " = ") name,
      length-append ((two_tabs ++ side) ++ range) (codes " = "),
      length-append (two_tabs ++ side) range,
      length-append two_tabs side,
      side_short l.side,
      name_short c l.to.0 s,
      range_short _ l.range refl good.0,
      range_short _ l.onto refl good.1,
    )

found_short : (c : Configuration) (n : ℕ) (side : Side) (a : ℕ) (o : Option Link)
    → link_beginning c n side a ≡ o → IsSound c → length (maybe_link c o) ≤ 300
found_short c n side a None e s = omega arith
found_short c n side a (Some l) e s =
    link_short c l s
    (All-contains HasGoodRanges c.links l s.links.ranges
    (found_listed (begins_at n side a) c.links l e).0)

link_at_short : (c : Configuration) (n : ℕ) (side : Side) (a : ℕ) → IsSound c
    → length (link_at c n side a) ≤ 300
unfolding link_at
link_at_short c n side a s = found_short c n side a (link_beginning c n side a) refl s

side_links_short : (c : Configuration) (n : ℕ) (side : Side) → IsSound c
    → length (side_links c n side) ≤ 30000
unfolding side_links
side_links_short c n side s =
    each_within (link_at c n side) 300 100 hundredths (λ a. link_at_short c n side a s)
    (omega (arith, count_of_hundredths))

links_of_short : (c : Configuration) (n : ℕ) → IsSound c → length (links_of c n) ≤ 130000
unfolding links_of
links_of_short c n s =
    omega (
      arith,
      block_short (name_of c n) (flat_map (side_links c n) sides) (name_short c n s),
      each_within (side_links c n) 30000 4 sides (λ side. side_links_short c n side s)
          (omega arith),
    )

links_short : (c : Configuration) → IsSound c → length (links_text c) ≤ 8320000
links_short c s =
    each_within (links_of c) 130000 64 (numbers_of c) (λ n. links_of_short c n s) (few_numbers c s)

-- ---- options for all screens, and hotkeys

options_short : (c : Configuration) → IsSound c → length (options_text c) ≤ 1260000
options_short c s =
    omega (
      arith,
      length-append (option_lines one_tab c.settings) (hotkeys_text c),
      option_lines_short stands_for_all one_tab c.settings (omega arith) s.for_all,
      hotkeys_short c (length c.screens) c.hotkeys s s.hotkeys.triggers s.hotkeys.actions,
      s.hotkeys.few,
      s.hotkeys.few_actions,
    )

-- ---- all

pub normal_short : (c : Configuration) → IsSound c → length (normal c) < 2 ^ 32 - 1
unfolding normal
normal_short c s =
    let screens = section_of (codes "screens") (screens_text c) in
    let aliases = section_of (codes "aliases") (aliases_text c) in
    let links = section_of (codes "links") (links_text c) in
    let options = section_of (codes "options") (options_text c) in
    omega (
      arith,
      length-append ((screens ++ aliases) ++ links) options,
      length-append (screens ++ aliases) links,
      length-append screens aliases,
      section_short (codes "screens") (screens_text c) (omega arith),
      section_short (codes "aliases") (aliases_text c) (omega arith),
      section_short (codes "links") (links_text c) (omega arith),
      section_short (codes "options") (options_text c) (omega arith),
      screens_short c s,
      aliases_short c s,
      links_short c s,
      options_short c s,
    )
