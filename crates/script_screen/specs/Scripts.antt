-- Server scripts: their lines, the buttons that lines leave down, and what every script keeps.
use Rattle.std.specs.Prelude.{◌≡◌, ℕ, ◌<◌, ◌≤◌, ◌==◌, Bool, true, false, if◌then◌else◌, List, []}
use Rattle.std.specs.Prelude.{◌∷◌, ◌++◌, length, Option, Some, None, All}
use Rattle.std.specs.List.{fold}
use Rattle.script_screen.specs.declared.kinds.TextKind.{TextKind}
use Rattle.script_screen.specs.declared.kinds.TextKind.TheVariants as kind
use Rattle.script_screen.specs.declared.script.ScriptLine.{ScriptLine}
use Rattle.script_screen.specs.declared.script.ScriptLine.TheVariants as line
use Rattle.script_screen.specs.declared.script.Primary.{Primary}
use Rattle.script_screen.specs.declared.script.ScriptItem.{ScriptItem}
use Rattle.script_screen.specs.declared.script.ScriptItem.TheVariants as item

-- the primary screen and the lines behind it
pub record ScriptText : Type 0 where
  pub primary : Primary
  pub lines : List ScriptLine

-- ---- what is down

-- whether a key's button is down after one more line
abbrev pub key_after : ℕ → Bool → ScriptLine → Bool
key_after b down (line.KeyDown id button) = if b == button.0 then true else down
key_after b down (line.KeyUp button) = if b == button.0 then false else down
key_after b down _ = down

-- whether a mouse button is
abbrev pub button_after : ℕ → Bool → ScriptLine → Bool
button_after b down (line.ButtonDown button) = if b == button.0 then true else down
button_after b down (line.ButtonUp button) = if b == button.0 then false else down
button_after b down _ = down

-- whether these lines leave it down
abbrev pub key_is_down : List ScriptLine → ℕ → Bool
key_is_down lines b = fold (key_after b) false lines

abbrev pub button_is_down : List ScriptLine → ℕ → Bool
button_is_down lines b = fold (button_after b) false lines

-- a button goes down where it is up, and is repeated and goes up where it is down
abbrev pub if_down : Bool → Option TextKind
if_down true = Some kind.AlreadyDown
if_down false = None

abbrev pub unless_down : Bool → Option TextKind
unless_down true = None
unless_down false = Some kind.NotDown

-- what is wrong with a line below these
abbrev pub script_fault : List ScriptLine → ScriptLine → Option TextKind
script_fault above (line.KeyDown id button) = if_down (key_is_down above button.0)
script_fault above (line.KeyRepeat count button) = unless_down (key_is_down above button.0)
script_fault above (line.KeyUp button) = unless_down (key_is_down above button.0)
script_fault above (line.ButtonDown button) = if_down (button_is_down above button.0)
script_fault above (line.ButtonUp button) = unless_down (button_is_down above button.0)
script_fault above _ = None

-- ---- what every script keeps

-- the numbers of a line are in their ranges
abbrev pub IsScriptLine : ScriptLine → Type 0
IsScriptLine (line.Sleep ms) = ms ≤ 86400000
IsScriptLine (line.KeyDown id button) = (1 ≤ id.0) × (1 ≤ button.0) × (button.0 ≤ 255)
IsScriptLine (line.KeyRepeat count button) = (1 ≤ count) × (1 ≤ button.0) × (button.0 ≤ 255)
IsScriptLine (line.KeyUp button) = (1 ≤ button.0) × (button.0 ≤ 255)
IsScriptLine (line.ButtonDown button) = 1 ≤ button.0
IsScriptLine (line.ButtonUp button) = 1 ≤ button.0
IsScriptLine (line.Copy clip bytes) = length bytes ≤ 4194304
IsScriptLine _ = Unit {0}

-- each of these lines is in its ranges and has no fault below those above it: so the downs and ups
-- of a button alternate
abbrev pub AreScriptLines : List ScriptLine → List ScriptLine → Type 0
AreScriptLines above [] = Unit {0}
AreScriptLines above (l ∷ ls) =
    IsScriptLine l × (script_fault above l ≡ None) × AreScriptLines (above ++ l ∷ []) ls

abbrev pub IsPrimary : Primary → Type 0
IsPrimary p = (1 ≤ p.w) × (p.w ≤ 32767) × (1 ≤ p.h) × (p.h ≤ 32767)

-- a line, or the primary screen
abbrev pub IsScriptItem : ScriptItem → Type 0
IsScriptItem (item.Primary p) = IsPrimary p
IsScriptItem (item.Line l) = IsScriptLine l

pub record IsScript (s : ScriptText) : Type 0 where
  pub primary : IsPrimary s.primary
  pub lines : AreScriptLines [] s.lines
  pub few : length s.lines < 1000000

-- ---- screens

-- the screen that a line names is below that number
abbrev pub NamesBelow : ℕ → ScriptLine → Type 0
NamesBelow count (line.Await screen) = screen.0 < count
NamesBelow count _ = Unit {0}

abbrev pub NamesItemBelow : ℕ → ScriptItem → Type 0
NamesItemBelow count (item.Primary p) = p.screen.0 < count
NamesItemBelow count (item.Line l) = NamesBelow count l

-- every screen of the script is below that number
abbrev pub ScreensBelow : ℕ → ScriptText → Type 0
ScreensBelow count s = (s.primary.screen.0 < count) × All (NamesBelow count) s.lines
