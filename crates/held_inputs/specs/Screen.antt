-- What a screen prints, call by call.
use Rattle.std.specs.Prelude.{ℕ, List, [], ◌∷◌, ◌++◌, length, Option, None, Some, Bool, true, false}
use Rattle.std.specs.Prelude.{cond, ◌==◌, ltb}
use Rattle.std.specs.Option.{option_map}
use Rattle.share_base.specs.declared.numbers.KeyId.{KeyId}
use Rattle.message_codec.specs.declared.messages.Msg.{Msg}
use Rattle.message_codec.specs.declared.messages.Msg.TheVariants as msg
use Rattle.modifier_map.specs.Map.{key_under, mask_under, changed, identity}
use Rattle.modifier_map.specs.declared.map.ModMap.{ModMap}
use Rattle.held_inputs.specs.declared.line.Line.{Line}
use Rattle.held_inputs.specs.declared.line.Line.TheVariants.{Enter, Leave, KeyDown, KeyRepeat}
use Rattle.held_inputs.specs.declared.line.Line.TheVariants.{KeyUp, ButtonDown, ButtonUp, MoveTo}
use Rattle.held_inputs.specs.declared.line.Line.TheVariants.{MoveBy, Wheel, SaverOn, SaverOff}
use Rattle.held_inputs.specs.Down.{down, is_button_down, held_keys, releases}

-- the lines so far, and the map of modifiers that is in force
pub record Screen : Type 0 where
  pub lines : List Line
  pub mods : ModMap

-- the calls of an injector
pub data Call : Type 0 where
  Applies : Msg → Call
  SetsOption : (code value : ℕ) → Call
  ResetsOptions : Call
  ReleasesAll : Call

-- what an id and a mask are injected as; no id where the map leaves the key out
unfoldable pub meant_id : ModMap → ℕ → Option ℕ
meant_id mods id = option_map (λ (key : KeyId). key.0) (key_under mods (record { 0 = id }))

unfoldable pub meant_mask : ModMap → ℕ → ℕ
meant_mask mods mask = (mask_under mods (record { 0 = mask })).0

-- a key that is up goes down where there is room for it and it means something
abbrev pub first_press : Bool → Option ℕ → ℕ → ℕ → List Line
first_press true (Some id) button mask = KeyDown id button mask ∷ []
first_press true None button mask = []
first_press false id button mask = []

-- a key that is down already repeats, with the id of its `key down`
abbrev pub press : List Line → Option ℕ → Option ℕ → ℕ → ℕ → List Line
press lines (Some first) id button mask = KeyRepeat first 1 button mask ∷ []
press lines None id button mask = first_press (ltb (length (held_keys lines)) 512) id button mask

-- the lines of a repeat and of an up, by the id of the key that is down; none where it is up
abbrev pub repeat : Option ℕ → ℕ → ℕ → ℕ → List Line
repeat (Some first) count button mask = KeyRepeat first count button mask ∷ []
repeat None count button mask = []

abbrev pub lift : Option ℕ → ℕ → List Line
lift (Some first) button = KeyUp first button ∷ []
lift None button = []

abbrev pub saver_line : ℕ → Line
saver_line on = cond (on == 0) SaverOff SaverOn

-- the lines of one message; none for those of options and clipboards, whose lines are printed a
-- layer above, and for all others
abbrev pub applied : Screen → Msg → List Line
applied s (msg.Enter x y seq mask) = Enter x y seq (meant_mask s.mods mask) ∷ []
applied s msg.Leave = releases s.lines ++ Leave ∷ []
applied s (msg.KeyDown id mask button) =
    press s.lines (down s.lines button) (meant_id s.mods id) button (meant_mask s.mods mask)
applied s (msg.KeyRepeat id mask count button) =
    repeat (down s.lines button) count button (meant_mask s.mods mask)
applied s (msg.KeyUp id mask button) = lift (down s.lines button) button
applied s (msg.ButtonDown b) = cond (is_button_down s.lines b) [] (ButtonDown b ∷ [])
applied s (msg.ButtonUp b) = cond (is_button_down s.lines b) (ButtonUp b ∷ []) []
applied s (msg.MoveTo x y) = MoveTo x y ∷ []
applied s (msg.MoveBy dx dy) = MoveBy dx dy ∷ []
applied s (msg.Wheel dx dy) = Wheel dx dy ∷ []
applied s (msg.Saver on) = saver_line on ∷ []
applied s _ = []

-- the lines of one call
abbrev pub lines_of : Screen → Call → List Line
lines_of s (Applies m) = applied s m
lines_of s (SetsOption code value) = []
lines_of s ResetsOptions = []
lines_of s ReleasesAll = releases s.lines

abbrev pub mods_after : ModMap → Call → ModMap
mods_after mods (SetsOption code value) = changed mods code value
mods_after mods ResetsOptions = identity
mods_after mods (Applies m) = mods
mods_after mods ReleasesAll = mods

abbrev pub after : Screen → Call → Screen
after s c = record { lines = s.lines ++ lines_of s c; mods = mods_after s.mods c }

abbrev pub screen_from : Screen → List Call → Screen
screen_from s [] = s
screen_from s (c ∷ cs) = screen_from (after s c) cs

-- the screen with lines that the layer above printed
abbrev pub with_lines : Screen → List Line → Screen
with_lines s more = record { lines = s.lines ++ more; mods = s.mods }

-- the screen after calls, oldest first, from this map on
abbrev pub screen : ModMap → List Call → Screen
screen mods calls = screen_from (record { lines = []; mods = mods }) calls
