-- What becomes of the texts of a number.
use Rattle.std.specs.Prelude.{◌≡◌, ℕ, ◌-◌, ◌<◌, ◌^◌, List, [], length, Err}
use Rattle.std.proofs.Common.{arith, ap, subst}
use Rattle.share_base.specs.Writing.{SinkState}
use Rattle.screen_config.specs.Configurations.{Configuration}
use Rattle.config_text.specs.declared.faults.ConfigRefusal.{ConfigRefusal}
use Rattle.config_text.specs.Accepting.{Accepts, Refuses}
use Rattle.config_text.specs.Lines.{refused}
use Rattle.config_text.specs.Verdicts.{Accepted, Refused}
use Rattle.config_text.proofs.Verdicts as config_verdicts
use Rattle.script_screen.specs.NumberedLines.{refused_at, text_judged}
use Rattle.script_screen.specs.Scripts.{ScriptText}
use Rattle.script_screen.specs.Texts.{script_reading, trace_judged}
use Rattle.script_screen.specs.Verdicts.{ScriptAccepts, ScriptRefuses, TraceAccepts, TraceRefuses}
use Rattle.script_screen.specs.declared.trace.TraceLine.{TraceLine}
use Rattle.script_screen.proofs.Readings.{is_script_reading, is_trace_reading, one_verdict}
use Rattle.generated_texts.specs.Texts.{texts_of}
use Rattle.share_commands.specs.declared.status.Status.{Status}
use Rattle.share_commands.specs.declared.status.Status.TheVariants as status
use Rattle.share_commands.specs.Checking.{SpellsConfig}
use Rattle.share_commands.specs.Texts.{SpellsScript, SpellsTrace}
use Rattle.generated_run.specs.declared.summary.Summary.{Summary}
use Rattle.generated_run.specs.Summaries.{summary_text}
use Rattle.share_commands.specs.Causes.{SinkCounts}
use Rattle.share_commands.specs.Generating.{IsSummary, NoSummary, IsGoodEnd, PrintsSummary, GeneratesFrom}
use Rattle.made_accepted.specs.Accepted.{TextsSpell}
use Rattle.made_accepted.specs.Spoken.{made_config, made_script, made_trace}
use Rattle.made_accepted.proofs.MadeTexts.{texts_spell, texts_fit_files}

-- the configuration is short
pub short_config : (n : ℕ) (text : List ℕ) → text ≡ (texts_of n).config → length text < 2 ^ 32 - 1
short_config n text e = omega (arith, ap length e, (texts_fit_files n).config)

-- ---- none of the texts is refused

not_both : (text : List ℕ) (config : Configuration) (r : ConfigRefusal) → Accepts text config → Refuses text r → ⊥
not_both text config r h k =
    let e : Accepted config ≡ Refused r = config_verdicts.one_verdict text (Accepted config) (Refused r) h k in
    let x : ⊥ = cc in x

same_config : (text : List ℕ) (config other : Configuration) → Accepts text config → Accepts text other → config ≡ other
same_config text config other h k =
    let e : Accepted config ≡ Accepted other = config_verdicts.one_verdict text (Accepted config) (Accepted other) h k in cc

pub config_none : (n : ℕ) (text : List ℕ) (end : Status) → text ≡ (texts_of n).config → SpellsConfig (Err end) text → NoSummary end
config_none n text (status.BadConfig line column kind) e h =
    let bad : Refuses (texts_of n).config (refused line column kind) = subst (λ (t : List ℕ). Refuses t (refused line column kind)) e h in
    not_both (texts_of n).config made_config (refused line column kind) (texts_spell n).config_is bad
config_none n text status.OutOfMemory e h = tt
config_none n text end e h = absurd h

pub script_none : (n : ℕ) (first text : List ℕ) (config : Configuration) (end : Status) → first ≡ (texts_of n).config → Accepts first config
    → text ≡ (texts_of n).script → SpellsScript config (Err end) text → NoSummary end
script_none n first text config (status.BadScript line kind) is good e h =
    let same : config ≡ made_config = same_config (texts_of n).config config made_config (subst (λ (t : List ℕ). Accepts t config) is good) (texts_spell n).config_is in
    let bad : ScriptRefuses made_config (texts_of n).script (refused_at line kind) =
    subst (λ (c : Configuration). ScriptRefuses c (texts_of n).script (refused_at line kind)) same
    (subst (λ (t : List ℕ). ScriptRefuses config t (refused_at line kind)) e h) in
    (one_verdict (script_reading made_config (texts_of n).script) (is_script_reading made_config (texts_of n).script)).not_both (made_script n) (refused_at line kind) (texts_spell n).script_is bad
script_none n first text config status.OutOfMemory is good e h = tt
script_none n first text config end is good e h = absurd h

pub trace_none : (n : ℕ) (text : List ℕ) (end : Status) → text ≡ (texts_of n).trace → SpellsTrace (Err end) text → NoSummary end
trace_none n text (status.BadTrace line kind) e h =
    let bad : TraceRefuses (texts_of n).trace (refused_at line kind) = subst (λ (t : List ℕ). TraceRefuses t (refused_at line kind)) e h in
    (one_verdict (text_judged trace_judged [] (texts_of n).trace) (is_trace_reading (texts_of n).trace)).not_both made_trace (refused_at line kind) (texts_spell n).trace_is bad
trace_none n text status.OutOfMemory e h = tt
trace_none n text end e h = absurd h

-- ---- what they spell

pub spell : (n : ℕ) (one two three : List ℕ) (config : Configuration) (script : ScriptText) (trace : List TraceLine)
    → one ≡ (texts_of n).config → two ≡ (texts_of n).script → three ≡ (texts_of n).trace
    → Accepts one config → ScriptAccepts config two script → TraceAccepts three trace → TextsSpell n config script trace
spell n one two three config script trace a b c h k l = record {
  config_is = subst (λ (t : List ℕ). Accepts t config) a h;
  script_is = subst (λ (t : List ℕ). ScriptAccepts config t script) b k;
  trace_is = subst (λ (t : List ℕ). TraceAccepts t trace) c l;
}

-- ---- what is written

pub good_none : (end : Status) → NoSummary end → IsGoodEnd end
good_none status.OutOfMemory h = tt
good_none end h = absurd h

pub generates_none : (end : Status) (n : ℕ) (old new : SinkState) → NoSummary end → new ≡ old → GeneratesFrom end n old new
generates_none status.Ok n old new h e = absurd h
generates_none status.WriteFault n old new h e = absurd h
generates_none end n old new h e = (h, e)

pub counts_none : (end : Status) (faults faults' : ℕ) → NoSummary end → faults' ≡ faults → SinkCounts end faults faults'
counts_none status.WriteFault faults faults' h e = absurd h
counts_none end faults faults' h e = e

pub generates_some : (end : Status) (n : ℕ) (summary : Summary) (old new : SinkState) → IsSummary n summary → PrintsSummary end (summary_text summary) old new → GeneratesFrom end n old new
generates_some status.Ok n summary old new is p = (summary, is, p)
generates_some status.WriteFault n summary old new is p = (summary, is, p)
generates_some end n summary old new is p = absurd p

pub good_print : (end : Status) (text : List ℕ) (old new : SinkState) → PrintsSummary end text old new → IsGoodEnd end
good_print status.Ok text old new p = tt
good_print status.WriteFault text old new p = tt
good_print end text old new p = absurd p
