-- The made trace is read.
use Rattle.std.proofs.Common.{◌≡◌, [], Ok, refl}
use Rattle.std.specs.Fmt.{digits}
use Rattle.text_lines.specs.Lines.{line_text, trimmed}
use Rattle.text_lines.specs.LineByLine.{all_lines}
use Rattle.text_lines.specs.Numbers.{decimal_of, digits_from}
use Rattle.text_lines.specs.Words.{words_of}
use Rattle.script_screen.specs.Forms.{trace_row}
use Rattle.script_screen.specs.Grammar.{words_judged, arguments_of}
use Rattle.script_screen.specs.Hex.{pairs_of, bytes_within}
use Rattle.script_screen.specs.NumberedLines.{text_judged}
use Rattle.script_screen.specs.Texts.{trace_judged}
use Rattle.script_screen.specs.Verdicts.{TraceAccepts}
use Rattle.script_screen.proofs.Readings.{is_trace_reading}
use Rattle.generated_texts.specs.Traces.{trace_text}
use Rattle.made_accepted.specs.Spoken.{made_trace}

trace_read : text_judged trace_judged [] trace_text ≡ Ok made_trace
unfolding made_trace trace_text digits line_text trimmed all_lines words_of words_judged trace_row
    arguments_of decimal_of digits_from bytes_within pairs_of
trace_read = refl

pub trace_accepted : TraceAccepts trace_text made_trace
trace_accepted = (is_trace_reading trace_text).accepts made_trace trace_read
