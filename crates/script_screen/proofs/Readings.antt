-- Reading as a function, and as two relations on texts: what it accepts, and what it refuses.
use Rattle.std.proofs.Common.{◌≡◌, ℕ, List, [], Result, Ok, Err, Option, Some, None, refl, ap, sym}
use Rattle.std.proofs.Common.{◌∙◌, ◌⊎◌, inl, inr, subst}
use Rattle.std.specs.Prelude.{IfOk, IfErr}
use Rattle.std.specs.Str.Lines.{lines}
use Rattle.text_lines.specs.Reading.{◌>>=◌}
use Rattle.text_lines.specs.LineByLine.{LeadsOver, OffendsIn}
use Rattle.text_lines.proofs.LineRuns.{leads, led, offends, offended, after_good, after_bad}
use Rattle.script_screen.specs.declared.kinds.TextKind.{TextKind}
use Rattle.script_screen.specs.declared.kinds.TextKind.TheVariants as kind
use Rattle.script_screen.specs.declared.kinds.TextFault.{TextFault}
use Rattle.script_screen.specs.declared.kinds.TextFault.TheVariants as text_fault
use Rattle.script_screen.specs.declared.script.Primary.{Primary}
use Rattle.script_screen.specs.declared.script.ScriptLine.{ScriptLine}
use Rattle.script_screen.specs.NumberedLines.{TextRefusal, refused_at, numbered, text_judged}
use Rattle.script_screen.specs.Answers.{TextGives, RefusedBy}
use Rattle.script_screen.specs.Screens.{KnownScreens}
use Rattle.script_screen.specs.Scripts.{ScriptText}
use Rattle.script_screen.specs.Texts.{ScriptSoFar, script_start, script_judged, client_judged}
use Rattle.script_screen.specs.Texts.{trace_judged, script_closed, script_reading}
use Rattle.script_screen.specs.Verdicts.{HasOneVerdict, ScriptAccepts, ScriptRefuses}
use Rattle.script_screen.specs.Verdicts.{ClientAccepts, ClientRefuses, TraceAccepts, TraceRefuses}

-- a reading gives a value exactly where that is accepted, and a refusal exactly where that is the
-- text's
pub record IsReading {V : Type 0} (reading : Result V TextRefusal) (Accepts : V → Type 0)
    (Refuses : TextRefusal → Type 0) : Type 0 where
  pub accepts : (v : V) → reading ≡ Ok v → Accepts v
  pub accepted : (v : V) → Accepts v → reading ≡ Ok v
  pub refuses : (r : TextRefusal) → reading ≡ Err r → Refuses r
  pub refused : (r : TextRefusal) → Refuses r → reading ≡ Err r

-- ---- what a function says that gives the reading

pub found_of : {V : Type 0} {reading : Result V TextRefusal} {Accepts : V → Type 0}
    {Refuses : TextRefusal → Type 0}
    → IsReading reading Accepts Refuses → (r : Result V TextFault) → TextGives (λ s. s) r reading
    → IfOk r Accepts
found_of is (Ok v) h = is.accepts v h
found_of is (Err e) h = tt

pub only_of : {V : Type 0} {reading : Result V TextRefusal} {Accepts : V → Type 0}
    {Refuses : TextRefusal → Type 0}
    → IsReading reading Accepts Refuses → (r : Result V TextFault) → TextGives (λ s. s) r reading
    → (v : V) → Accepts v → TextGives {Y = V} (λ s. s) r (Ok v)
only_of {V = V} is r h v a =
    subst (λ (x : Result V TextRefusal). TextGives (λ s. s) r x) (is.accepted v a) h

pub refused_of : {V : Type 0} {reading : Result V TextRefusal} {Accepts : V → Type 0}
    {Refuses : TextRefusal → Type 0}
    → IsReading reading Accepts Refuses → (r : Result V TextFault) → TextGives (λ s. s) r reading
    → IfErr r (RefusedBy Refuses)
refused_of is (Ok v) h = tt
refused_of is (Err (text_fault.Refused line k)) h = is.refuses (refused_at line k) h
refused_of is (Err text_fault.OutOfMemory) h = tt

pub refuses_of : {V : Type 0} {reading : Result V TextRefusal} {Accepts : V → Type 0}
    {Refuses : TextRefusal → Type 0}
    → IsReading reading Accepts Refuses → (r : Result V TextFault) → TextGives (λ s. s) r reading
    → (e : TextRefusal) → Refuses e → TextGives {Y = V} (λ s. s) r (Err e)
refuses_of {V = V} is r h e a =
    subst (λ (x : Result V TextRefusal). TextGives (λ s. s) r x) (is.refused e a) h

-- ---- the three texts

by_lines : {D : Type 0} (judge : D → List (List ℕ) → Result D TextKind) (start : D) (text : List ℕ)
    → IsReading (text_judged judge start text) (LeadsOver (numbered judge) 1 start (lines text))
    (OffendsIn (numbered judge) start (lines text))
by_lines judge start text = record {
  accepts = leads (numbered judge) 1 start (lines text);
  accepted = led (numbered judge) 1 start (lines text);
  refuses = offends (numbered judge) start (lines text);
  refused = offended (numbered judge) start (lines text);
}

pub is_client_reading : (text : List ℕ)
    → IsReading (text_judged client_judged [] text) (ClientAccepts text) (ClientRefuses text)
is_client_reading text = by_lines client_judged [] text

pub is_trace_reading : (text : List ℕ)
    → IsReading (text_judged trace_judged [] text) (TraceAccepts text) (TraceRefuses text)
is_trace_reading text = by_lines trace_judged [] text

closed_good : (primary : Option Primary) (ls : List ScriptLine) (s : ScriptText)
    → script_closed primary ls ≡ Ok s → (primary ≡ Some s.primary) × (ls ≡ s.lines)
closed_good None ls s h = absurd cc
closed_good (Some p) ls s h =
    let same : record { primary = p; lines = ls } ≡ s = cc in (
      ap (λ (x : ScriptText). let o : Option Primary = Some x.primary in o) same,
      ap (λ (x : ScriptText). x.lines) same,
    )

closed_bad : (primary : Option Primary) (ls : List ScriptLine) (r : TextRefusal)
    → script_closed primary ls ≡ Err r → (primary ≡ None) × (r ≡ refused_at 1 kind.NoPrimary)
closed_bad None ls r h = (refl, cc)
closed_bad (Some p) ls r h = absurd cc

script_good : (config : KnownScreens) (text : List ℕ) (s : ScriptText)
    → script_reading config text ≡ Ok s → ScriptAccepts config text s
script_good config text s h =
    let b =
    after_good (text_judged script_judged (script_start config) text)
    (λ d. script_closed d.primary d.lines) s h in
    let k = closed_good b.0.primary b.0.lines s b.2 in
    record {
      draft = b.0;
      good = leads (numbered script_judged) 1 (script_start config) (lines text) b.0 b.1;
      primary = k.0;
      lines_are = k.1;
    }

script_taken : (config : KnownScreens) (text : List ℕ) (s : ScriptText)
    → ScriptAccepts config text s → script_reading config text ≡ Ok s
script_taken config text s h =
    ap (λ (r : Result ScriptSoFar TextRefusal). r >>= λ d. script_closed d.primary d.lines)
    (led (numbered script_judged) 1 (script_start config) (lines text) h.draft h.good)
    ∙ ap (λ (o : Option Primary). script_closed o h.draft.lines) h.primary
    ∙ ap (λ (ls : List ScriptLine). script_closed (Some s.primary) ls) h.lines_are

script_bad : (config : KnownScreens) (text : List ℕ) (r : TextRefusal)
    → script_reading config text ≡ Err r → ScriptRefuses config text r
script_bad config text r h =
    elim
    (after_bad (text_judged script_judged (script_start config) text)
    (λ d. script_closed d.primary d.lines) r h) [
      | inl e ↦ inl (offends (numbered script_judged) (script_start config) (lines text) r e)
      | inr b ↦
          let k = closed_bad b.0.primary b.0.lines r b.2 in
          inr
          (record {
            draft = b.0;
            good =
                leads (numbered script_judged) 1 (script_start config) (lines text) b.0
                b.1;
            none = k.0;
            place = k.1;
          })
    ]

script_refused : (config : KnownScreens) (text : List ℕ) (r : TextRefusal)
    → ScriptRefuses config text r → script_reading config text ≡ Err r
script_refused config text r (inl h) =
    ap (λ (r : Result ScriptSoFar TextRefusal). r >>= λ d. script_closed d.primary d.lines)
    (offended (numbered script_judged) (script_start config) (lines text) r h)
script_refused config text r (inr h) =
    ap (λ (r : Result ScriptSoFar TextRefusal). r >>= λ d. script_closed d.primary d.lines)
    (led (numbered script_judged) 1 (script_start config) (lines text) h.draft h.good)
    ∙ ap (λ (o : Option Primary). script_closed o h.draft.lines) h.none
    ∙ ap (λ (x : TextRefusal). let a : Result ScriptText TextRefusal = Err x in a) (sym h.place)

pub is_script_reading : (config : KnownScreens) (text : List ℕ)
    → IsReading (script_reading config text) (ScriptAccepts config text) (ScriptRefuses config text)
is_script_reading config text =
    record {
      accepts = script_good config text;
      accepted = script_taken config text;
      refuses = script_bad config text;
      refused = script_refused config text;
    }

-- ---- one verdict

some_by : {V : Type 0} {reading : Result V TextRefusal} {Accepts : V → Type 0}
    {Refuses : TextRefusal → Type 0}
    → IsReading reading Accepts Refuses → (r : Result V TextRefusal) → reading ≡ r
    → ((v : V) × Accepts v) ⊎ ((r : TextRefusal) × Refuses r)
some_by is (Ok v) h = inl (v, is.accepts v h)
some_by is (Err r) h = inr (r, is.refuses r h)

apart : {V : Type 0} (v : V) (r : TextRefusal) (x : Result V TextRefusal) → x ≡ Ok v → x ≡ Err r → ⊥
apart v r (Ok w) h k = absurd cc
apart v r (Err s) h k = absurd cc

same_ok : {V : Type 0} (v w : V) (x : Result V TextRefusal) → x ≡ Ok v → x ≡ Ok w → v ≡ w
same_ok v w (Ok x) h k = cc
same_ok v w (Err r) h k = absurd cc

same_err : {V : Type 0} (r s : TextRefusal) (x : Result V TextRefusal) → x ≡ Err r → x ≡ Err s
    → r ≡ s
same_err r s (Ok x) h k = absurd cc
same_err r s (Err t) h k = cc

pub one_verdict : {V : Type 0} (reading : Result V TextRefusal) {Accepts : V → Type 0}
    {Refuses : TextRefusal → Type 0}
    → IsReading reading Accepts Refuses → HasOneVerdict Accepts Refuses
one_verdict reading is = record {
  some = some_by is reading refl;
  not_both = λ v r a f. apart v r reading (is.accepted v a) (is.refused r f);
  one_value = λ v w a b. same_ok v w reading (is.accepted v a) (is.accepted w b);
  one_refusal = λ r s a b. same_err r s reading (is.refused r a) (is.refused s b);
}
