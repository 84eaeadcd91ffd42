-- The text of each line that a screen prints.
use Rattle.std.specs.Prelude.{ℕ, ◌+◌, ◌*◌, ◌≤◌, List, [], ◌∷◌, ◌++◌, length, codes}
use Rattle.std.specs.List.{flat_map}
use Rattle.std.specs.Fmt.{decimal, signed_decimal}
use Rattle.std.specs.Int.{w32, to_be_bytes}
use Rattle.share_base.specs.Clips.{clip_number}
use Rattle.share_base.specs.Hex.{hex}
use Rattle.message_codec.specs.Showing.{after_blank}
use Rattle.held_inputs.specs.declared.line.Line.{Line}
use Rattle.held_inputs.specs.declared.line.Line.TheVariants.{Enter, Leave, KeyDown, KeyRepeat}
use Rattle.held_inputs.specs.declared.line.Line.TheVariants.{KeyUp, ButtonDown, ButtonUp, MoveTo}
use Rattle.held_inputs.specs.declared.line.Line.TheVariants.{MoveBy, Wheel, SaverOn, SaverOff}
use Rattle.held_inputs.specs.declared.line.Line.TheVariants.{ResetOptions, SetOption, Grab, Clip}

-- the words that a line begins with, then each field after a blank, then a newline
abbrev pub text : List ℕ → List (List ℕ) → List ℕ
text words fields = words ++ flat_map after_blank fields ++ 10 ∷ []

abbrev pub line_of : Line → List ℕ
line_of (Enter x y seq mask) =
    text (codes "enter") (signed_decimal x ∷ signed_decimal y ∷ decimal seq ∷ decimal mask ∷ [])
line_of Leave = text (codes "leave") []
line_of (KeyDown id button mask) =
    text (codes "key down") (decimal id ∷ decimal button ∷ decimal mask ∷ [])
line_of (KeyRepeat id count button mask) =
    text (codes "key rep") (decimal id ∷ decimal count ∷ decimal button ∷ decimal mask ∷ [])
line_of (KeyUp id button) = text (codes "key up") (decimal id ∷ decimal button ∷ [])
line_of (ButtonDown b) = text (codes "button down") (decimal b ∷ [])
line_of (ButtonUp b) = text (codes "button up") (decimal b ∷ [])
line_of (MoveTo x y) = text (codes "move") (signed_decimal x ∷ signed_decimal y ∷ [])
line_of (MoveBy dx dy) = text (codes "moveby") (signed_decimal dx ∷ signed_decimal dy ∷ [])
line_of (Wheel dx dy) = text (codes "wheel") (signed_decimal dx ∷ signed_decimal dy ∷ [])
line_of SaverOn = text (codes "saver on") []
line_of SaverOff = text (codes "saver off") []
line_of ResetOptions = text (codes "reset options") []
line_of (SetOption code value) =
    text (codes "option") (hex (to_be_bytes w32 code) ∷ decimal value ∷ [])
line_of (Grab clip) = text (codes "grab") (decimal (clip_number clip) ∷ [])
line_of (Clip clip bytes) = text (codes "clip") (decimal (clip_number clip) ∷ hex bytes ∷ [])

-- no line takes more bytes than this
abbrev pub room_of : Line → ℕ
room_of (Enter x y seq mask) = 37
room_of Leave = 6
room_of (KeyDown id button mask) = 27
room_of (KeyRepeat id count button mask) = 32
room_of (KeyUp id button) = 19
room_of (ButtonDown b) = 18
room_of (ButtonUp b) = 16
room_of (MoveTo x y) = 19
room_of (MoveBy dx dy) = 21
room_of (Wheel dx dy) = 20
room_of SaverOn = 9
room_of SaverOff = 10
room_of ResetOptions = 14
room_of (SetOption code value) = 28
room_of (Grab clip) = 11
room_of (Clip clip bytes) = 2 * length bytes + 13

-- every line of one message but those of a leaving is so short
abbrev pub IsShort : Line → Type 0
IsShort line = room_of line ≤ 37
