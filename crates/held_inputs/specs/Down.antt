-- What is down after lines were printed, found by looking back over them.
use Rattle.std.specs.Prelude.{ℕ, ◌+◌, max, List, [], ◌∷◌, ◌++◌, map, Option, None, Some, Bool, true}
use Rattle.std.specs.Prelude.{false, cond, ◌==◌, suc, zero}
use Rattle.std.specs.Option.{option_or}
use Rattle.held_inputs.specs.declared.line.Line.{Line}
use Rattle.held_inputs.specs.declared.line.Line.TheVariants.{KeyDown, KeyRepeat, KeyUp, ButtonDown}
use Rattle.held_inputs.specs.declared.line.Line.TheVariants.{ButtonUp, ResetOptions, SetOption}
use Rattle.held_inputs.specs.declared.line.Line.TheVariants.{Grab, Clip}
use Rattle.held_inputs.specs.declared.keys.HeldKey.{HeldKey}

-- the last element that passes a test
unfoldable pub last_where : {X : Type 0} → (X → Bool) → List X → Option X
last_where test [] = None
last_where test (x ∷ xs) = option_or (last_where test xs) (cond (test x) (Some x) None)

-- a line names the key at a button
abbrev pub names_key : ℕ → Line → Bool
names_key b (KeyDown id button mask) = button == b
names_key b (KeyRepeat id count button mask) = button == b
names_key b (KeyUp id button) = button == b
names_key b _ = false

-- a line is the key's `key down`
abbrev pub presses_key : ℕ → Line → Bool
presses_key b (KeyDown id button mask) = button == b
presses_key b _ = false

-- a line names a button of the mouse
abbrev pub names_button : ℕ → Line → Bool
names_button b (ButtonDown button) = button == b
names_button b (ButtonUp button) = button == b
names_button b _ = false

-- a line of options or of clipboards, which names no key and no button
abbrev pub IsPlain : Line → Type 0
IsPlain ResetOptions = Unit {0}
IsPlain (SetOption code value) = Unit {0}
IsPlain (Grab clip) = Unit {0}
IsPlain (Clip clip bytes) = Unit {0}
IsPlain _ = ⊥

-- what the last line that names it leaves: down after a `key down`, a `key rep` or a `button down`
abbrev pub leaves_down : Option Line → Bool
leaves_down (Some (KeyDown id button mask)) = true
leaves_down (Some (KeyRepeat id count button mask)) = true
leaves_down (Some (ButtonDown button)) = true
leaves_down _ = false

abbrev pub id_in : Option Line → Option ℕ
id_in (Some (KeyDown id button mask)) = Some id
id_in _ = None

-- a key that is down, with the id of its last `key down`; none where it is up
unfoldable pub down : List Line → ℕ → Option ℕ
down lines b =
    cond (leaves_down (last_where (names_key b) lines)) (id_in (last_where (presses_key b) lines))
    None

unfoldable pub is_button_down : List Line → ℕ → Bool
is_button_down lines b = leaves_down (last_where (names_button b) lines)

-- one more than the highest button that a line names, of the keyboard or of the mouse
abbrev pub above : Line → ℕ
above (KeyDown id button mask) = button + 1
above (KeyRepeat id count button mask) = button + 1
above (KeyUp id button) = button + 1
above (ButtonDown button) = button + 1
above (ButtonUp button) = button + 1
above _ = 0

-- one more than the highest button that any line names
unfoldable pub reach : List Line → ℕ
reach [] = 0
reach (x ∷ xs) = max (above x) (reach xs)

abbrev pub held_one : ℕ → Option ℕ → List HeldKey
held_one b None = []
held_one b (Some id) = record { button = b; id = id } ∷ []

-- the keys that are down at buttons below a number, by rising button
unfoldable pub keys_below : List Line → ℕ → List HeldKey
keys_below lines zero = []
keys_below lines (suc b) = keys_below lines b ++ held_one b (down lines b)

-- the mouse buttons that are down below a number, rising
unfoldable pub buttons_below : List Line → ℕ → List ℕ
buttons_below lines zero = []
buttons_below lines (suc b) = buttons_below lines b ++ cond (is_button_down lines b) (b ∷ []) []

-- the keys that are down, by rising button
unfoldable pub held_keys : List Line → List HeldKey
held_keys lines = keys_below lines (reach lines)

-- the mouse buttons that are down, rising
unfoldable pub held_buttons : List Line → List ℕ
held_buttons lines = buttons_below lines (reach lines)

abbrev pub up_of : HeldKey → Line
up_of key = KeyUp key.id key.button

-- all that is down goes up: the keys by rising button, then the mouse buttons by rising number
unfoldable pub releases : List Line → List Line
releases lines = map up_of (held_keys lines) ++ map ButtonUp (held_buttons lines)
