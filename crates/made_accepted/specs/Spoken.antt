-- What the texts of a number say: the configuration, the script and the trace as which they are
-- accepted.
use Rattle.std.specs.Prelude.{ℕ, ◌+◌, pos, ◌-ℤ◌, ◌==◌, nat_lt, Bool, if◌then◌else◌, List, [], ◌∷◌}
use Rattle.std.specs.Prelude.{◌++◌, map, codes}
use Rattle.std.specs.List.{range_with_len}
use Rattle.share_base.specs.declared.clip_id.ClipId.TheVariants.{Clipboard}
use Rattle.share_base.specs.declared.shape.Side.{Side}
use Rattle.share_base.specs.declared.shape.Side.TheVariants as side
use Rattle.screen_links.specs.Adding.{link_of}
use Rattle.screen_links.specs.declared.link.Link.{Link}
use Rattle.option_table.specs.Settings.{none_set}
use Rattle.screen_config.specs.declared.screens.Screen.{Screen}
use Rattle.screen_config.specs.Configurations.{Configuration}
use Rattle.script_screen.specs.Scripts.{ScriptText}
use Rattle.script_screen.specs.declared.script.Primary.{Primary}
use Rattle.script_screen.specs.declared.script.ScriptLine.{ScriptLine}
use Rattle.script_screen.specs.declared.script.ScriptLine.TheVariants as line
use Rattle.script_screen.specs.declared.trace.TraceLine.{TraceLine}
use Rattle.script_screen.specs.declared.trace.TraceLine.TheVariants as trace_line
use Rattle.generated_texts.specs.Draws.{drawn_after}
use Rattle.generated_texts.specs.Events.{draws_before, events}
use Rattle.generated_texts.specs.Lines.{is_key_down, is_button_down}
use Rattle.generated_texts.specs.Traces.{hello_answer, screen_info}

-- ---- the configuration

abbrev pub plain_screen : List ℕ → Screen
plain_screen name = record { name = name; settings = none_set }

-- over the whole of both sides
abbrev pub whole_link : ℕ → Side → ℕ → Link
whole_link from side to =
    link_of (record { 0 = from }) side (record { a = 0; b = 100 }) (record { 0 = to })
    (record { a = 0; b = 100 })

-- four screens in a row, each linked to its neighbours
unfoldable pub made_config : Configuration
made_config = record {
  screens =
      plain_screen (codes "desk") ∷ plain_screen (codes "s1") ∷ plain_screen (codes "s2")
      ∷ plain_screen (codes "s3") ∷ [];
  aliases = [];
  links =
      whole_link 0 side.Right 1 ∷ whole_link 1 side.Left 0 ∷ whole_link 1 side.Right 2
      ∷ whole_link 2 side.Left 1 ∷ whole_link 2 side.Right 3 ∷ whole_link 3 side.Left 2 ∷ [];
  settings = none_set;
  hotkeys = [];
}

-- ---- the script

-- a button that is down goes up, and one that is up goes down; a key's id is 96 more than its
-- button
abbrev pub key_turn : Bool → ℕ → ScriptLine
key_turn is_down b =
    if is_down then line.KeyUp (record { 0 = b })
    else line.KeyDown (record { 0 = 96 + b }) (record { 0 = b })

abbrev pub button_turn : Bool → ℕ → ScriptLine
button_turn is_down b =
    if is_down then line.ButtonUp (record { 0 = b }) else line.ButtonDown (record { 0 = b })

-- the line that a draw below 8 and, for what it needs more, further draws make, where these keys'
-- buttons and these mouse buttons are down
abbrev pub line_of : ℕ → (ℕ → ℕ) → (ℕ → ℕ) → (ℕ → Bool) → (ℕ → Bool) → ScriptLine
line_of kind second third keys buttons =
    if nat_lt kind 4 then line.Motion (pos (second 801) -ℤ pos 400) (pos (third 401) -ℤ pos 200)
    else (if kind == 4 then line.Wheel (pos 0) (pos 120)
    else (if kind == 5 then key_turn (keys (1 + second 40)) (1 + second 40)
    else (if kind == 6 then button_turn (buttons (1 + second 3)) (1 + second 3)
    else line.Copy Clipboard (range_with_len 0 (second 65)))))

-- the line of the event at an index, where the events before it left buttons down
abbrev pub made_line : ℕ → ℕ → ScriptLine
made_line seed i =
    line_of (drawn_after seed (draws_before seed i) 8) (drawn_after seed (draws_before seed i + 1))
    (drawn_after seed (draws_before seed i + 2)) (is_key_down (events seed i))
    (is_button_down (events seed i))

-- the lines of the first so many events
unfoldable pub made_lines : ℕ → ℕ → List ScriptLine
made_lines seed count = map (made_line seed) (range_with_len 0 count)

abbrev pub made_primary : Primary
made_primary = record { screen = record { 0 = 0 }; w = 1920; h = 1080 }

-- a wait for each screen other than the primary
abbrev pub waits : List ScriptLine
waits = map (λ n. line.Await (record { 0 = n })) (1 ∷ 2 ∷ 3 ∷ [])

-- the waits, 2,000 events, and the end
abbrev pub made_script : ℕ → ScriptText
made_script seed = record {
  primary = made_primary;
  lines = (waits ++ made_lines seed 2000) ++ line.Quit ∷ [];
}

-- ---- the trace

-- three clients join, answer the hello and say their shape, and then the turns of the run pass
unfoldable pub made_trace : List TraceLine
made_trace =
    trace_line.Turn 0 ∷ map trace_line.Join (1 ∷ 2 ∷ 3 ∷ []) ++ trace_line.Turn 0
    ∷ trace_line.Got 1 (hello_answer (codes "s1")) ∷ trace_line.Got 2 (hello_answer (codes "s2"))
    ∷ trace_line.Got 3 (hello_answer (codes "s3")) ∷ trace_line.Turn 0
    ∷ map (λ c. trace_line.Got c screen_info) (1 ∷ 2 ∷ 3 ∷ [])
    ++ map trace_line.Turn (range_with_len 1 20)
