-- Which texts are scripts and traces, and where and why the others are refused: a text is accepted
-- where each line is good in what the lines above it gave, and refused at its first line that
-- isn't.
use Rattle.std.specs.Prelude.{◌≡◌, ℕ, List, [], Some, None, ◌⊎◌}
use Rattle.std.specs.Str.Lines.{lines}
use Rattle.text_lines.specs.LineByLine.{LeadsOver, OffendsIn}
use Rattle.script_screen.specs.declared.kinds.TextKind.TheVariants as kind
use Rattle.script_screen.specs.declared.client_script.ClientLine.{ClientLine}
use Rattle.script_screen.specs.declared.trace.TraceLine.{TraceLine}
use Rattle.script_screen.specs.NumberedLines.{TextRefusal, refused_at, numbered}
use Rattle.script_screen.specs.Screens.{KnownScreens}
use Rattle.script_screen.specs.Scripts.{ScriptText}
use Rattle.script_screen.specs.Texts.{ScriptSoFar, script_start, script_judged, client_judged}
use Rattle.script_screen.specs.Texts.{trace_judged}

-- ---- the server script

pub record ScriptAccepts (config : KnownScreens) (text : List ℕ) (script : ScriptText)
    : Type 0 where
  pub draft : ScriptSoFar
  pub good : LeadsOver (numbered script_judged) 1 (script_start config) (lines text) draft
  pub primary : draft.primary ≡ Some script.primary
  pub lines_are : draft.lines ≡ script.lines

-- every line is good, and none is the primary's
pub record HasNoPrimary (config : KnownScreens) (text : List ℕ) (r : TextRefusal) : Type 0 where
  pub draft : ScriptSoFar
  pub good : LeadsOver (numbered script_judged) 1 (script_start config) (lines text) draft
  pub none : draft.primary ≡ None
  pub place : r ≡ refused_at 1 kind.NoPrimary

abbrev pub ScriptRefuses : KnownScreens → List ℕ → TextRefusal → Type 0
ScriptRefuses config text r =
    OffendsIn (numbered script_judged) (script_start config) (lines text) r
    ⊎ HasNoPrimary config text r

-- ---- the client script

abbrev pub ClientAccepts : List ℕ → List ClientLine → Type 0
ClientAccepts text script = LeadsOver (numbered client_judged) 1 [] (lines text) script

abbrev pub ClientRefuses : List ℕ → TextRefusal → Type 0
ClientRefuses text r = OffendsIn (numbered client_judged) [] (lines text) r

-- ---- the trace

abbrev pub TraceAccepts : List ℕ → List TraceLine → Type 0
TraceAccepts text trace = LeadsOver (numbered trace_judged) 1 [] (lines text) trace

abbrev pub TraceRefuses : List ℕ → TextRefusal → Type 0
TraceRefuses text r = OffendsIn (numbered trace_judged) [] (lines text) r

-- ---- one verdict

-- something is accepted or something is refused, and not both; one value at most, and one refusal
-- at most
pub record HasOneVerdict {V : Type 0} (Accepts : V → Type 0) (Refuses : TextRefusal → Type 0)
    : Type 0 where
  pub some : ((v : V) × Accepts v) ⊎ ((r : TextRefusal) × Refuses r)
  pub not_both : (v : V) (r : TextRefusal) → Accepts v → Refuses r → ⊥
  pub one_value : (v w : V) → Accepts v → Accepts w → v ≡ w
  pub one_refusal : (r s : TextRefusal) → Refuses r → Refuses s → r ≡ s
