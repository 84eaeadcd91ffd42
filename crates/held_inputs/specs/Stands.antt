-- What an injector keeps of a screen, and what its calls do to it.
use Rattle.std.specs.Prelude.{◌≡◌, ℕ, List, [], ◌++◌, false, length, map, slice_index_or}
use Rattle.std.specs.List.{flat_map, AllByRecursion}
use Rattle.modifier_map.specs.declared.map.ModMap.{ModMap}
use Rattle.held_inputs.specs.declared.line.Line.{Line}
use Rattle.held_inputs.specs.declared.line.Line.TheVariants.{ButtonUp}
use Rattle.held_inputs.specs.declared.held.Held.{Held}
use Rattle.held_inputs.specs.declared.injector.Injector.{Injector}
use Rattle.held_inputs.specs.Line.{line_of}
use Rattle.held_inputs.specs.Ranges.{Fits}
use Rattle.held_inputs.specs.Down.{held_keys, is_button_down, up_of}
use Rattle.held_inputs.specs.Table.{places}
use Rattle.held_inputs.specs.Screen.{Screen, Call, screen, after, lines_of}

-- the text by which all that the tables have goes up: the keys by rising button, then the mouse
-- buttons by rising number
abbrev pub release_text : Held → List ℕ
release_text h =
    flat_map line_of (map up_of h.keys)
    ++ flat_map line_of (map ButtonUp (places h.buttons (length h.buttons)))

-- no key and no mouse button is in the tables
pub record AllUp (h : Held) : Type 0 where
  pub keys : h.keys ≡ []
  pub buttons : (b : ℕ) → slice_index_or h.buttons b false ≡ false

-- the injector represents a screen: its tables have what is down there, and its map is the one in
-- force
pub record Stands (i : Injector) (s : Screen) : Type 0 where
  pub keys : i.held.keys ≡ held_keys s.lines
  pub buttons : (b : ℕ) → slice_index_or i.held.buttons b false ≡ is_button_down s.lines b
  pub mods : i.mods ≡ s.mods

-- the injector represents a list of calls, oldest first, made with this map
abbrev pub StandsFor : ModMap → Injector → List Call → Type 0
StandsFor mods i calls = Stands i (screen mods calls)

-- from every screen that it represented, a call leads to that screen after the call
abbrev pub Follows : Injector → Injector → Call → Type 0
Follows old new call = (s : Screen) → Stands old s → Stands new (after s call)

-- the same, and its lines are these
pub record Tells (old new : Injector) (call : Call) (lines : List Line) : Type 0 where
  pub stands : Follows old new call
  pub gives : (s : Screen) → Stands old s → lines ≡ lines_of s call

-- the same, with the lines printed after what was there before; they have one reading, since each
-- is in its ranges
pub record Prints (old new : Injector) (call : Call) (before printed : List ℕ) : Type 0 where
  pub stands : Follows old new call
  pub gives : (s : Screen) → Stands old s → printed ≡ before ++ flat_map line_of (lines_of s call)
  pub fits : (s : Screen) → Stands old s → AllByRecursion Fits (lines_of s call)
