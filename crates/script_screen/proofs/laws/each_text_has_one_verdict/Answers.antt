use Rattle.std.proofs.Common.{[]}
use Rattle.script_screen.specs.Texts.{client_judged, trace_judged}
use Rattle.script_screen.specs.Texts.{script_reading}
use Rattle.script_screen.specs.NumberedLines.{text_judged}
use Rattle.script_screen.proofs.Readings.{is_script_reading, is_client_reading, is_trace_reading}
use Rattle.script_screen.proofs.Readings.{one_verdict}
use Rattle.script_screen.proofs.laws.each_text_has_one_verdict.Goals as goal

pub returns : goal.returns
returns c = record {
  script = λ config text. one_verdict (script_reading config text) (is_script_reading config text);
  client = λ text. one_verdict (text_judged client_judged [] text) (is_client_reading text);
  trace = λ text. one_verdict (text_judged trace_judged [] text) (is_trace_reading text);
}
