-- A line of more than four words is of no form.
use Rattle.std.proofs.Common.{◌≡◌, ℕ, ◌+◌, ◌<◌, Bool, true, false, ◌&&◌, List, length}
use Rattle.std.proofs.Common.{refl, arith}
use Rattle.std.specs.Prelude.{◌==◌, nat_le, Option, None, Err}
use Rattle.std.proofs.lemmas.Bool.Decides.{nat_tests}
use Rattle.script_screen.specs.declared.kinds.TextKind.TheVariants as kind
use Rattle.script_screen.specs.declared.forms.ScriptForm.{ScriptForm}
use Rattle.script_screen.specs.declared.forms.ScriptForm.TheVariants as script
use Rattle.script_screen.specs.declared.forms.ClientForm.{ClientForm}
use Rattle.script_screen.specs.declared.forms.ClientForm.TheVariants as client
use Rattle.script_screen.specs.declared.forms.TraceForm.{TraceForm}
use Rattle.script_screen.specs.declared.forms.TraceForm.TheVariants as trace
use Rattle.script_screen.specs.declared.client_script.ClientLine.{ClientLine}
use Rattle.script_screen.specs.declared.trace.TraceLine.{TraceLine}
use Rattle.script_screen.specs.Forms.{script_row, script_forms, client_row, client_forms, trace_row}
use Rattle.script_screen.specs.Forms.{trace_forms}
use Rattle.script_screen.specs.Grammar.{Row, Language, begins_with, takes, form_of, words_judged}
use Rattle.script_screen.specs.Texts.{ScriptSoFar, script_judged, client_judged, trace_judged}
use Rattle.script_screen.proofs.RowSteps.{none_passes}

-- a row's lines have at most four words
abbrev is_short : Row → Bool
is_short row = nat_le (length row.words + length row.parts) 4

and_false : (b c : Bool) → c ≡ false → (b && c) ≡ false
and_false true c h = h
and_false false c h = refl

counted : (n : ℕ) (row : Row) → 4 < n → is_short row ≡ true
    → (n == length row.words + length row.parts) ≡ false
counted n row h s = grind (arith, nat_tests)

not_taken : (row : Row) (words : List (List ℕ)) → 4 < length words → is_short row ≡ true
    → takes row words ≡ false
not_taken row words h s = and_false (begins_with row.words words) _ (counted (length words) row h s)

script_rows : (f : ScriptForm) → is_short (script_row f) ≡ true
unfolding script_row
script_rows script.Primary = refl
script_rows script.Sleep = refl
script_rows script.Await = refl
script_rows script.KeyDown = refl
script_rows script.KeyRepeat = refl
script_rows script.KeyUp = refl
script_rows script.ButtonDown = refl
script_rows script.ButtonUp = refl
script_rows script.Motion = refl
script_rows script.Wheel = refl
script_rows script.SaverOn = refl
script_rows script.SaverOff = refl
script_rows script.Copy = refl
script_rows script.Quit = refl

client_rows : (f : ClientForm) → is_short (client_row f) ≡ true
unfolding client_row
client_rows client.Sleep = refl
client_rows client.Copy = refl
client_rows client.Resize = refl

trace_rows : (f : TraceForm) → is_short (trace_row f) ≡ true
unfolding trace_row
trace_rows trace.Turn = refl
trace_rows trace.Join = refl
trace_rows trace.Got = refl
trace_rows trace.End = refl
trace_rows trace.Fail = refl
trace_rows trace.Room = refl

no_form : {F L D : Type 0} (language : Language F L D) (screens : List ℕ → Option ℕ) (draft : D)
    (words : List (List ℕ))
    → form_of language words ≡ None → words_judged language screens draft words ≡ Err kind.BadWord
unfolding words_judged
no_form language screens draft words h = rw h refl

pub script_short : (draft : ScriptSoFar) (words : List (List ℕ)) → 4 < length words
    → script_judged draft words ≡ Err kind.BadWord
script_short draft words h =
    no_form _ _ draft words
    (none_passes (λ f. takes (script_row f) words) script_forms
    (λ f. not_taken (script_row f) words h (script_rows f)))

pub client_short : (draft : List ClientLine) (words : List (List ℕ)) → 4 < length words
    → client_judged draft words ≡ Err kind.BadWord
client_short draft words h =
    no_form _ _ draft words
    (none_passes (λ f. takes (client_row f) words) client_forms
    (λ f. not_taken (client_row f) words h (client_rows f)))

pub trace_short : (draft : List TraceLine) (words : List (List ℕ)) → 4 < length words
    → trace_judged draft words ≡ Err kind.BadWord
trace_short draft words h =
    no_form _ _ draft words
    (none_passes (λ f. takes (trace_row f) words) trace_forms
    (λ f. not_taken (trace_row f) words h (trace_rows f)))
