-- The refusal of a text names a line, from 1 on, and so is none of a file that is too big.
use Rattle.std.proofs.Common.{◌≡◌, ℕ, ◌+◌, ◌<◌, Bool, true, false, nat_lt, cond, List, [], length, Result, Ok, Err, ap, inl, inr, arith}
use Rattle.std.specs.Str.Lines.{lines}
use Rattle.text_lines.specs.Lines.{line_text}
use Rattle.text_lines.specs.LineByLine.{OffendsIn}
use Rattle.screen_config.specs.Configurations.{Configuration}
use Rattle.config_text.specs.Lines.{refused}
use Rattle.config_text.proofs.LineNumbers.{has_line}
use Rattle.script_screen.specs.declared.kinds.TextKind.{TextKind}
use Rattle.script_screen.specs.declared.kinds.TextKind.TheVariants.{TooLong}
use Rattle.script_screen.specs.declared.trace.TraceLine.{TraceLine}
use Rattle.script_screen.specs.Scripts.{ScriptText}
use Rattle.script_screen.specs.NumberedLines.{TextRefusal, refused_at, line_judged, at_line, numbered}
use Rattle.script_screen.specs.declared.client_script.ClientLine.{ClientLine}
use Rattle.script_screen.specs.Texts.{script_judged, script_start, client_judged, trace_judged}
use Rattle.script_screen.specs.Verdicts.{ScriptRefuses, ClientRefuses, TraceRefuses}
use Rattle.share_commands.specs.declared.status.Status.{Status}
use Rattle.share_commands.specs.declared.status.Status.TheVariants as status
use Rattle.share_commands.specs.Reading.{Gives, end_of}
use Rattle.share_commands.specs.Checking.{configs}
use Rattle.share_commands.specs.Texts.{scripts, client_scripts, traces}
use Rattle.share_commands.proofs.ReadTexts.{NamesLine}

abbrev line_of : TextRefusal → ℕ
line_of r = r.line

same_refusal : {D : Type 0} (a b : TextRefusal) → (let r : Result D TextRefusal = Err a in r) ≡ Err b → a ≡ b
same_refusal a b e = cc

judged_at : {D : Type 0} (line : ℕ) (judged : Result D TextKind) (r : TextRefusal) → at_line line judged ≡ Err r → line ≡ r.line
judged_at line (Ok draft) r e = absurd cc
judged_at line (Err k) r e = ap line_of (same_refusal (refused_at line k) r e)

numbered_at : {D : Type 0} (judge : D → List (List ℕ) → Result D TextKind) (line : ℕ) (draft : D) (raw : List ℕ) (r : TextRefusal) → numbered judge line draft raw ≡ Err r → line ≡ r.line
numbered_at {D = D} judge line draft raw r e = by (nat_lt 1000000 line) e
  where
    by : (b : Bool) → cond b (let x : Result D TextRefusal = Err (refused_at line TooLong) in x) (at_line line (line_judged judge draft (line_text raw))) ≡ Err r → line ≡ r.line
    by true k = ap line_of (same_refusal (refused_at line TooLong) r k)
    by false k = judged_at line (line_judged judge draft (line_text raw)) r k

offends_at : {D : Type 0} (judge : D → List (List ℕ) → Result D TextKind) (from : D) (ls : List (List ℕ)) (r : TextRefusal) → OffendsIn (numbered judge) from ls r → 0 < r.line
offends_at judge from ls r o = omega (arith, numbered_at judge (length o.above + 1) o.draft o.line r o.bad)

script_line_named : (config : Configuration) (text : List ℕ) (r : TextRefusal) → ScriptRefuses config text r → 0 < r.line
script_line_named config text r (inl o) = offends_at script_judged (script_start config) (lines text) r o
script_line_named config text r (inr n) = omega (arith, ap line_of n.place)

client_line_named : (text : List ℕ) (r : TextRefusal) → ClientRefuses text r → 0 < r.line
client_line_named text r o = offends_at client_judged [] (lines text) r o

trace_line_named : (text : List ℕ) (r : TextRefusal) → TraceRefuses text r → 0 < r.line
trace_line_named text r o = offends_at trace_judged [] (lines text) r o

-- ---- the statuses that say a refusal

pub script_named : (config : Configuration) (result : Result ScriptText Status) (text : List ℕ) → Gives (scripts config) result text → NamesLine (end_of result)
script_named config (Ok script) text g = tt
script_named config (Err (status.BadScript line k)) text g = script_line_named config text (refused_at line k) g
script_named config (Err status.OutOfMemory) text g = tt
script_named config (Err end) text g = absurd g

pub client_named : (result : Result (List ClientLine) Status) (text : List ℕ) → Gives client_scripts result text → NamesLine (end_of result)
client_named (Ok script) text g = tt
client_named (Err (status.BadScript line k)) text g = client_line_named text (refused_at line k) g
client_named (Err status.OutOfMemory) text g = tt
client_named (Err end) text g = absurd g

pub trace_named : (result : Result (List TraceLine) Status) (text : List ℕ) → Gives traces result text → NamesLine (end_of result)
trace_named (Ok trace) text g = tt
trace_named (Err (status.BadTrace line k)) text g = trace_line_named text (refused_at line k) g
trace_named (Err status.OutOfMemory) text g = tt
trace_named (Err end) text g = absurd g

pub config_named : (result : Result Configuration Status) (text : List ℕ) → Gives configs result text → NamesLine (end_of result)
config_named (Ok config) text g = tt
config_named (Err (status.BadConfig line column k)) text g = has_line text (refused line column k) g
config_named (Err status.OutOfMemory) text g = tt
config_named (Err end) text g = absurd g
