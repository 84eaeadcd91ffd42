-- The screen of a client and its clipboards, after the messages that it got.
use Rattle.std.specs.Prelude.{ℕ, List, [], ◌∷◌, ◌++◌, map, fold}
use Rattle.message_codec.specs.declared.messages.Msg.{Msg}
use Rattle.message_codec.specs.declared.messages.Msg.TheVariants as msg
use Rattle.modifier_map.specs.declared.map.ModMap.{ModMap}
use Rattle.modifier_map.specs.Map.{identity, changed}
use Rattle.clip_chunks.specs.Parts.{Part, part}
use Rattle.client_talk.specs.Options.{pairs}
use Rattle.held_inputs.specs.declared.line.Line.{Line}
use Rattle.held_inputs.specs.declared.line.Line.TheVariants as line
use Rattle.held_inputs.specs.declared.injector.Injector.{Injector}
use Rattle.held_inputs.specs.Down.{releases}
use Rattle.held_inputs.specs.Screen.{Screen, Applies, after, with_lines}
use Rattle.held_inputs.specs.Stands.{Stands}
use Rattle.client_core.specs.Clipboards.{part_lines}

-- a line for each option
abbrev pub option_lines : List ℕ → List Line
option_lines words = map (λ (option : ℕ × ℕ). line.SetOption option.0 option.1) (pairs words)

-- the map changed by each option in turn
abbrev pub set_all : ModMap → List ℕ → ModMap
set_all mods words =
    fold (λ (m : ModMap) (option : ℕ × ℕ). changed m option.0 option.1) mods (pairs words)

-- a screen, and all parts of clipboards that came, the newest first
pub record Display : Type 0 where
  pub screen : Screen
  pub parts : List Part

abbrev pub with_screen : Screen → Display → Display
with_screen s d = record d { screen = s }

-- the screen prints the line of the whole that the part ends, where it ends one
abbrev pub with_part : Part → Display → Display
with_part p d = record { screen = with_lines d.screen (part_lines p d.parts); parts = p ∷ d.parts }

-- the display after one more message
abbrev pub heard : Display → Msg → Display
heard d msg.ResetOptions =
    with_screen (record { lines = d.screen.lines ++ line.ResetOptions ∷ []; mods = identity }) d
heard d (msg.SetOptions words) =
    with_screen (record {
      lines = d.screen.lines ++ option_lines words;
      mods = set_all d.screen.mods words;
    }) d
heard d (msg.Grab clip seq) = with_screen (with_lines d.screen (line.Grab clip ∷ [])) d
heard d (msg.ClipPart clip seq mark bytes) = with_part (part mark clip seq bytes) d
heard d m = with_screen (after d.screen (Applies m)) d

-- the display before any message
abbrev pub fresh : Display
fresh = record { screen = record { lines = []; mods = identity }; parts = [] }

-- the display after more messages, oldest first
abbrev pub heard_all : Display → List Msg → Display
heard_all d messages = fold heard d messages

-- the display after messages
abbrev pub display : List Msg → Display
display messages = heard_all fresh messages

-- the screen after messages
abbrev pub client : List Msg → Screen
client messages = (display messages).screen

-- its lines, and then those that its end adds
abbrev pub all_lines : List Msg → List Line
all_lines messages = (client messages).lines ++ releases (client messages).lines

-- from every screen that it stood for, an injector came to stand for that screen with the map
-- changed by options
abbrev pub SetsAll : Injector → Injector → List ℕ → Type 0
SetsAll old new words = (s : Screen) → Stands old s
    → Stands new (record { lines = s.lines; mods = set_all s.mods words })
