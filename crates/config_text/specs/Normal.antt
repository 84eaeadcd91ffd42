-- The normal form: each section once, screens and aliases in the order of the text, links by side
-- and then by where they begin, options in the order of their table, hotkeys in the order of the
-- text.
use Rattle.std.specs.Prelude.{ℕ, ◌==◌, ◌&&◌, if◌then◌else◌, List, [], ◌∷◌, ◌++◌, map, Option, Some}
use Rattle.std.specs.Prelude.{None, codes}
use Rattle.std.specs.List.{flat_map}
use Rattle.std.specs.Fmt.{decimal}
use Rattle.share_base.specs.declared.shape.Side.{Side}
use Rattle.text_lines.specs.Reading.{is_empty}
use Rattle.screen_links.specs.declared.link.Link.{Link}
use Rattle.screen_links.specs.declared.range.Range.{Range}
use Rattle.option_table.specs.Printed.{option_lines}
use Rattle.hotkey_rules.specs.declared.action.Action.{Action}
use Rattle.hotkey_rules.specs.declared.action.Action.TheVariants as action
use Rattle.hotkey_rules.specs.declared.rule.Rule.{Rule}
use Rattle.hotkey_text.specs.Printed.{trigger_text, action_text, hotkey_text}
use Rattle.screen_config.specs.declared.screens.Screen.{Screen}
use Rattle.screen_config.specs.declared.screens.Alias.{Alias}
use Rattle.screen_config.specs.Configurations.{Configuration}
use Rattle.share_base.specs.Sides.{side_text, sides as all_sides}
use Rattle.screen_config.specs.Values.{names_screen, numbers_of, name_of, hundredths}
use Rattle.screen_config.specs.Values.{link_beginning}

abbrev pub one_tab : List ℕ
one_tab = 9 ∷ []

abbrev pub two_tabs : List ℕ
two_tabs = 9 ∷ 9 ∷ []

-- a header's line, and a header with the lines below it, where there are any
unfoldable pub header_text : List ℕ → List ℕ
header_text name = (one_tab ++ name) ++ 58 ∷ 10 ∷ []

abbrev pub block_text : List ℕ → List ℕ → List ℕ
block_text name below = if is_empty below then [] else header_text name ++ below

-- section: NAME, its lines, end
unfoldable pub section_of : List ℕ → List ℕ → List ℕ
section_of name below =
    ((codes "section: " ++ name) ++ 10 ∷ []) ++ (below ++ (codes "end" ++ 10 ∷ []))

-- ---- screens

unfoldable pub screen_text : Screen → List ℕ
screen_text s = header_text s.name ++ option_lines two_tabs s.settings

abbrev pub screens_text : Configuration → List ℕ
screens_text c = flat_map screen_text c.screens

-- ---- aliases

unfoldable pub alias_text : ℕ → Alias → List ℕ
alias_text n a = if names_screen n a then (two_tabs ++ a.name) ++ 10 ∷ [] else []

unfoldable pub aliases_of : Configuration → ℕ → List ℕ
aliases_of c n = block_text (name_of c n) (flat_map (alias_text n) c.aliases)

abbrev pub aliases_text : Configuration → List ℕ
aliases_text c = flat_map (aliases_of c) (numbers_of c)

-- ---- links

-- (a,b), where it isn't (0,100)
unfoldable pub range_text : Range → List ℕ
range_text r =
    if (r.a == 0) && (r.b == 100) then []
    else (((codes "(" ++ decimal r.a) ++ codes ",") ++ decimal r.b) ++ codes ")"

unfoldable pub link_text : Configuration → Link → List ℕ
link_text c l =
    (((((two_tabs ++ side_text l.side) ++ range_text l.range) ++ codes " = ") ++ name_of c l.to.0)
    ++ range_text l.onto)
    ++ 10 ∷ []

abbrev pub maybe_link : Configuration → Option Link → List ℕ
maybe_link c None = []
maybe_link c (Some l) = link_text c l

-- the link of that side of that screen which begins at that hundredth, where there is one
unfoldable pub link_at : Configuration → ℕ → Side → ℕ → List ℕ
link_at c n side a = maybe_link c (link_beginning c n side a)

unfoldable pub side_links : Configuration → ℕ → Side → List ℕ
side_links c n side = flat_map (link_at c n side) hundredths

unfoldable pub links_of : Configuration → ℕ → List ℕ
links_of c n = block_text (name_of c n) (flat_map (side_links c n) all_sides)

abbrev pub links_text : Configuration → List ℕ
links_text c = flat_map (links_of c) (numbers_of c)

-- ---- options for all screens, and hotkeys

-- the name of the screen to which an action switches
abbrev pub screen_in : Configuration → Action → List ℕ
screen_in c (action.SwitchTo screen) = name_of c screen.0
screen_in c (action.SwitchToward side) = []
screen_in c (action.Lock mode) = []
screen_in c (action.KeyStroke id mods button) = []
screen_in c (action.KeyPress id mods button) = []
screen_in c (action.KeyRelease id mods button) = []
screen_in c (action.MouseClick mods b) = []
screen_in c (action.MousePress mods b) = []
screen_in c (action.MouseRelease mods b) = []

unfoldable pub action_of : Configuration → Action → List ℕ
action_of c a = action_text a (screen_in c a)

-- behind another
abbrev pub further_action : Configuration → Action → List ℕ
further_action c a = codes ", " ++ action_of c a

unfoldable pub hotkey_of : Configuration → Rule → List ℕ
hotkey_of c rule =
    (one_tab
    ++ hotkey_text (trigger_text rule.trigger) (map (action_of c) rule.press)
    (map (action_of c) rule.release))
    ++ 10 ∷ []

abbrev pub hotkeys_text : Configuration → List ℕ
hotkeys_text c = flat_map (hotkey_of c) c.hotkeys

abbrev pub options_text : Configuration → List ℕ
options_text c = option_lines one_tab c.settings ++ hotkeys_text c

-- ---- all

unfoldable pub normal : Configuration → List ℕ
normal c =
    ((section_of (codes "screens") (screens_text c)
    ++ section_of (codes "aliases") (aliases_text c))
    ++ section_of (codes "links") (links_text c)) ++ section_of (codes "options") (options_text c)
