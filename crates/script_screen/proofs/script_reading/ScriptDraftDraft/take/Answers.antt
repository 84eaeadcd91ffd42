use Rattle.std.proofs.Common.{◌≡◌, ℕ, List, map, sym, ◌∙◌, ap}
use Rattle.std.specs.Prelude.{Result, Err}
use Rattle.text_lines.specs.Reading.{◌>>=◌}
use Rattle.text_lines.specs.Words.{words_of}
use Rattle.script_screen.specs.declared.kinds.TextKind.{TextKind}
use Rattle.script_screen.specs.declared.script.ScriptItem.{ScriptItem}
use Rattle.script_screen.specs.Forms.{script_row, script_forms}
use Rattle.script_screen.specs.Grammar.{takes, line_of}
use Rattle.script_screen.specs.Screens.{KnownScreens, screen_named}
use Rattle.script_screen.specs.Texts.{ScriptSoFar, script_judged, script_language, script_add}
use Rattle.script_screen.proofs.LongLines.{script_short}
use Rattle.script_screen.proofs.RowSteps.{found_passes}
use Rattle.script_screen.proofs.ScriptSteps.{judged_by, fault_passes, gives_as}
use Rattle.script_screen.proofs.script_reading.ScriptDraftDraft.take.Goals as goal

pub returns-in_default-clause-gives : goal.returns-in_default-clause-gives
returns-in_default-clause-gives c =
    script_short c.args.self.now (words_of c.args.line.now) c.in_default.ensures

pub arguments-requires : goal.arguments-requires
arguments-requires c =
    found_passes (λ f. takes (script_row f) (map (λ w. w.now) c.as_slice-words.result.now))
    script_forms c.in-Some-of.form (sym c.of.ensures ∙ c.in-Some-of.is)

pub returns-in-Ok-clause-gives : goal.returns-in-Ok-clause-gives
returns-in-Ok-clause-gives c =
    let s : ScriptSoFar = c.args.self.now in
    let words : List (List ℕ) = map (λ w. w.now) c.as_slice-words.result.now in
    let arguments : List (List ℕ) = map (λ w. w.now) c.arguments.result.now in
    let same : words ≡ words_of c.args.line.now =
    ap (map (λ w. w.now)) c.as_slice-words.ensures ∙ c.in-Some.ensures in
    let judged : script_judged s (words_of c.args.line.now) ≡ script_add s c.in-Ok.item =
    ap (script_judged s) (sym same)
    ∙ judged_by s words arguments c.in-Some-of.form (sym c.of.ensures ∙ c.in-Some-of.is)
    (sym c.misplaced.ensures ∙ c.in_default-misplaced.is) c.arguments.ensures.rest
    ∙ ap
    (λ (k : KnownScreens). line_of script_language (screen_named k) c.in-Some-of.form arguments
    >>= λ i. script_add s i)
    (sym c.config.ensures)
    ∙ ap (λ (r : Result ScriptItem TextKind). r >>= λ i. script_add s i) c.in-Ok.ensures.gives in
    gives_as _ c.add.result _ _ (sym judged) c.add.ensures.gives

pub returns-in-Err-clause-gives : goal.returns-in-Err-clause-gives
returns-in-Err-clause-gives c =
    let s : ScriptSoFar = c.args.self.now in
    let words : List (List ℕ) = map (λ w. w.now) c.as_slice-words.result.now in
    let arguments : List (List ℕ) = map (λ w. w.now) c.arguments.result.now in
    let same : words ≡ words_of c.args.line.now =
    ap (map (λ w. w.now)) c.as_slice-words.ensures ∙ c.in-Some.ensures in
    let judged : script_judged s (words_of c.args.line.now)
    ≡ (line_of script_language (screen_named c.config.result.now) c.in-Some-of.form arguments
    >>= λ i. script_add s i) =
    ap (script_judged s) (sym same)
    ∙ judged_by s words arguments c.in-Some-of.form (sym c.of.ensures ∙ c.in-Some-of.is)
    (sym c.misplaced.ensures ∙ c.in_default-misplaced.is) c.arguments.ensures.rest
    ∙ ap
    (λ (k : KnownScreens). line_of script_language (screen_named k) c.in-Some-of.form arguments
    >>= λ i. script_add s i)
    (sym c.config.ensures) in
    gives_as (λ (x : Unit {0}). s) (Err c.in-Err.fault) _ _ (sym judged)
    (fault_passes (λ (x : ScriptItem). x) (λ (x : Unit {0}). s) c.in-Err.fault _
    (λ i. script_add s i) c.in-Err.ensures.gives)
