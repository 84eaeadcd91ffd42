use Rattle.std.proofs.Common.{map, sym, ◌∙◌}
use Rattle.text_lines.specs.Words.{words_of}
use Rattle.script_screen.specs.Forms.{trace_row, trace_forms}
use Rattle.script_screen.specs.Grammar.{takes}
use Rattle.script_screen.proofs.LongLines.{trace_short}
use Rattle.script_screen.proofs.RowSteps.{found_passes}
use Rattle.script_screen.proofs.trace_reading.TraceDraftDraft.take.Goals as goal

pub returns-in_default-clause-gives : goal.returns-in_default-clause-gives
returns-in_default-clause-gives c =
    trace_short c.args.self.now (words_of c.args.line.now) c.in_default.ensures

pub arguments-requires : goal.arguments-requires
arguments-requires c =
    found_passes (λ f. takes (trace_row f) (map (λ w. w.now) c.as_slice-words.result.now))
    trace_forms c.in-Some-of.form (sym c.of.ensures ∙ c.in-Some-of.is)
