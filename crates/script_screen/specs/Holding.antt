-- What the tables of buttons stand for.
use Rattle.std.specs.Prelude.{◌≡◌, ℕ, ◌+◌, ◌<◌, false, List, [], length, get_or, Option, Some, None}
use Rattle.std.specs.Prelude.{All}
use Rattle.script_screen.specs.declared.held.Held.{Held}
use Rattle.script_screen.specs.declared.script.ScriptLine.{ScriptLine}
use Rattle.script_screen.specs.declared.script.Primary.{Primary}
use Rattle.script_screen.specs.Screens.{screen_count}
use Rattle.script_screen.specs.Scripts.{key_is_down, button_is_down, IsPrimary, AreScriptLines}
use Rattle.script_screen.specs.Scripts.{NamesBelow}
use Rattle.script_screen.specs.Texts.{ScriptSoFar}

-- each button is down where these lines leave it down
pub record IsHeldAfter (held : Held) (lines : List ScriptLine) : Type 0 where
  pub keys : (b : ℕ) → b < 256 → get_or held.keys b false ≡ key_is_down lines b
  pub buttons : (b : ℕ) → b < 256 → get_or held.buttons b false ≡ button_is_down lines b

abbrev pub count_of_primary : Option Primary → ℕ
count_of_primary None = 0
count_of_primary (Some p) = 1

-- how many lines of the text are held: the primary's, and those behind it
abbrev pub lines_held : ScriptSoFar → ℕ
lines_held s = count_of_primary s.primary + length s.lines

abbrev pub IsPrimaryBelow : ℕ → Option Primary → Type 0
IsPrimaryBelow count None = Unit {0}
IsPrimaryBelow count (Some p) = IsPrimary p × (p.screen.0 < count)

-- a script so far, and the tables that stand for its lines
pub record IsScriptedBy (held : Held) (s : ScriptSoFar) : Type 0 where
  pub held_is : IsHeldAfter held s.lines
  pub primary : IsPrimaryBelow (screen_count s.config) s.primary
  pub lines_fit : AreScriptLines [] s.lines
  pub known : All (NamesBelow (screen_count s.config)) s.lines
