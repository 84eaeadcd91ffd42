-- The three texts of the run that a number makes.
use Rattle.std.specs.Prelude.{ℕ, List, ◌++◌, codes}
use Rattle.std.specs.List.{flat_map, range_with_len}
use Rattle.generated_texts.specs.declared.texts.Texts.{Texts}
use Rattle.generated_texts.specs.Events.{events, event_at}
use Rattle.generated_texts.specs.Lines.{line_after}
use Rattle.generated_texts.specs.Screens.{config_text}
use Rattle.generated_texts.specs.Traces.{trace_text}

-- the line of the event at an index
abbrev pub event_line : ℕ → ℕ → List ℕ
event_line seed i = line_after (events seed i) (event_at seed i)

-- the lines of the first so many events
unfoldable pub event_lines : ℕ → ℕ → List ℕ
event_lines seed count = flat_map (event_line seed) (range_with_len 0 count)

-- the primary screen, a wait for each other one, the events, and the end
abbrev pub script_start : List ℕ
script_start = codes "primary desk 1920 1080\n" ++ codes "await s1\n" ++ codes "await s2\n"
    ++ codes "await s3\n"

abbrev pub script_text : ℕ → List ℕ
script_text seed = script_start ++ event_lines seed 2000 ++ codes "quit\n"

abbrev pub texts_of : ℕ → Texts
texts_of number = record { config = config_text; script = script_text number; trace = trace_text }
