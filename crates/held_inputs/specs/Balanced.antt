-- Lines that leave nothing down.
use Rattle.std.specs.Prelude.{◌≡◌, ℕ, zero, suc, List, [], ◌∷◌, ◌++◌, map, take, None, Some, false}
use Rattle.std.specs.Prelude.{slice_get}
use Rattle.std.specs.List.{filter, flat_map}
use Rattle.held_inputs.specs.declared.line.Line.{Line}
use Rattle.held_inputs.specs.declared.line.Line.TheVariants.{Leave, KeyDown, KeyRepeat, KeyUp}
use Rattle.held_inputs.specs.declared.line.Line.TheVariants.{ButtonDown, ButtonUp}
use Rattle.held_inputs.specs.Down.{down, is_button_down, names_key, names_button}

-- what one `key rep` of a key adds
pub record Again : Type 0 where
  pub count : ℕ
  pub mask : ℕ

-- a press of a key: one `key down`, any number of `key rep`, one `key up`, all with one id
pub record Press : Type 0 where
  pub id : ℕ
  pub mask : ℕ
  pub repeats : List Again

abbrev pub repeat_of : ℕ → ℕ → Again → Line
repeat_of id b again = KeyRepeat id again.count b again.mask

abbrev pub press_lines : ℕ → Press → List Line
press_lines b p = KeyDown p.id b p.mask ∷ map (repeat_of p.id b) p.repeats ++ KeyUp p.id b ∷ []

-- a mouse button goes down and up, so many times
abbrev pub clicks : ℕ → ℕ → List Line
clicks b zero = []
clicks b (suc n) = ButtonDown b ∷ ButtonUp b ∷ clicks b n

-- the lines that name a key are whole presses of it, and those that name a mouse button whole
-- clicks
pub record Balanced (lines : List Line) : Type 0 where
  pub keys : (b : ℕ)
      → (presses : List Press) × (filter (names_key b) lines ≡ flat_map (press_lines b) presses)
  pub buttons : (b : ℕ) → (n : ℕ) × (filter (names_button b) lines ≡ clicks b n)

pub record NothingDown (lines : List Line) : Type 0 where
  pub keys : (b : ℕ) → down lines b ≡ None
  pub buttons : (b : ℕ) → is_button_down lines b ≡ false

-- nothing is down at any `leave` line
abbrev pub ClearAtLeaves : List Line → Type 0
ClearAtLeaves lines = (n : ℕ) → slice_get lines n ≡ Some Leave → NothingDown (take n lines)
