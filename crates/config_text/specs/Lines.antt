-- One line judged in what the lines above it gave, and all of them.
use Rattle.std.specs.Prelude.{ℕ, ◌+◌, ◌-◌, List, length, Result, Ok, Err, Option, Some, None}
use Rattle.std.specs.Str.Lines.{lines}
use Rattle.text_lines.specs.Lines.{LineText, Empty, Forbidden, Words, line_text}
use Rattle.text_lines.specs.LineByLine.{all_lines}
use Rattle.text_lines.specs.Reading.{◌>>=◌}
use Rattle.config_text.specs.declared.faults.ConfigKind.{ConfigKind}
use Rattle.config_text.specs.declared.faults.ConfigKind.TheVariants as kind
use Rattle.config_text.specs.declared.faults.Fault.{Fault}
use Rattle.config_text.specs.declared.faults.ConfigRefusal.{ConfigRefusal}
use Rattle.config_text.specs.declared.sections.Opened.{Opened}
use Rattle.config_text.specs.Drafts.{Draft}
use Rattle.screen_config.specs.Configurations.{Configuration, nothing}
use Rattle.config_text.specs.Sections.{words_in}

abbrev pub refused : ℕ → ℕ → ConfigKind → ConfigRefusal
refused line column k = record { line = line; column = column; kind = k }

-- where a fault stands in a line that ends behind so many bytes
abbrev pub placed : {A : Type 0} → ℕ → ℕ → Result A Fault → Result A ConfigRefusal
placed line end (Ok a) = Ok a
placed line end (Err f) = Err (refused line (end - f.left + 1) f.kind)

abbrev pub judged_as : LineText → ℕ → Draft → Result Draft ConfigRefusal
judged_as Empty line d = Ok d
judged_as (Forbidden place) line d = Err (refused line (place + 1) kind.BadLine)
judged_as (Words words end) line d =
    placed line end (words_in line (end - length words + 1) d words)

unfoldable pub judged : ℕ → Draft → List ℕ → Result Draft ConfigRefusal
judged line d raw = judged_as (line_text raw) line d

abbrev pub start : Draft
start = record { opened = None; header = None; config = nothing }

abbrev pub closed : Option Opened → Configuration → Result Configuration ConfigRefusal
closed None c = Ok c
closed (Some o) c = Err (refused o.line o.column kind.UnclosedSection)

unfoldable pub reading : List ℕ → Result Configuration ConfigRefusal
reading text = all_lines judged 1 start (lines text) >>= λ d. closed d.opened d.config
