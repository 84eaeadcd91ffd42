-- A script, and one line more.
use Rattle.std.proofs.Common.{◌≡◌, ℕ, zero, suc, ◌+◌, List, [], ◌∷◌, ◌++◌, length, drop, ap}
use Rattle.std.proofs.Common.{sym, ◌∙◌, append_assoc, arith, refl, subst, Bool, true, false, cond}
use Rattle.std.specs.Prelude.{Some, None, Result, Ok, Err, All, nat_lt}
use Rattle.std.proofs.lemmas.List.{append-nil}
use Rattle.std.proofs.lemmas.List.Elements.{All-append}
use Rattle.std.specs.List.{find}
use Rattle.std.specs.Str.Lines.{lines}
use Rattle.text_lines.specs.Reading.{◌>>=◌}
use Rattle.text_lines.specs.Lines.{LineText, Empty, Forbidden, Words, line_text}
use Rattle.text_lines.specs.LineByLine.{LeadsOver}
use Rattle.text_lines.specs.Words.{words_of}
use Rattle.text_lines.proofs.LineRuns.{after_good, leads}
use Rattle.script_screen.specs.declared.kinds.TextKind.{TextKind}
use Rattle.script_screen.specs.declared.kinds.TextKind.TheVariants as kind
use Rattle.script_screen.specs.declared.kinds.LineFault.{LineFault}
use Rattle.script_screen.specs.declared.kinds.LineFault.TheVariants as line_fault
use Rattle.script_screen.specs.declared.forms.ScriptForm.{ScriptForm}
use Rattle.script_screen.specs.declared.script.ScriptItem.{ScriptItem}
use Rattle.script_screen.specs.declared.script.ScriptItem.TheVariants as item
use Rattle.script_screen.specs.Answers.{LineGives}
use Rattle.script_screen.specs.Forms.{script_row, script_forms}
use Rattle.script_screen.specs.Grammar.{takes, line_of, or_kind, unless_kind, words_judged}
use Rattle.script_screen.specs.NumberedLines.{refused_at, at_line, line_judged, numbered}
use Rattle.script_screen.specs.NumberedLines.{text_judged}
use Rattle.script_screen.specs.declared.script.ScriptLine.{ScriptLine}
use Rattle.script_screen.specs.declared.held.Held.{Held}
use Rattle.script_screen.specs.Holding.{IsHeldAfter, IsScriptedBy}
use Rattle.script_screen.specs.Screens.{screen_count, screen_named}
use Rattle.script_screen.specs.Scripts.{IsScriptLine, AreScriptLines, NamesBelow, script_fault}
use Rattle.script_screen.specs.Texts.{ScriptSoFar, script_language, script_judged, script_add}
use Rattle.script_screen.specs.Texts.{misplaced_by}

-- a line without a fault goes on with them
pub script_fits_more : (above ls : List ScriptLine) (l : ScriptLine) → AreScriptLines above ls
    → IsScriptLine l → script_fault (above ++ ls) l ≡ None → AreScriptLines above (ls ++ l ∷ [])
script_fits_more above [] l h s f =
    (s, ap (λ (xs : List ScriptLine). script_fault xs l) (sym (append-nil above)) ∙ f, tt)
script_fits_more above (x ∷ ls) l h s f = (
  h.0,
  h.1,
  script_fits_more (above ++ x ∷ []) ls l h.2 s
      (ap (λ (xs : List ScriptLine). script_fault xs l) (append_assoc above (x ∷ []) ls) ∙ f),
)

one_is : (P : ScriptLine → Type 0) (l : ScriptLine) → P l → All P (l ∷ [])
one_is P l h zero d lt = h
one_is P l h (suc k) d lt = absurd (omega arith)

pub scripted_more : (old new : Held) (s : ScriptSoFar) (l : ScriptLine) → IsScriptedBy old s
    → IsScriptLine l → NamesBelow (screen_count s.config) l → script_fault s.lines l ≡ None
    → IsHeldAfter new (s.lines ++ l ∷ [])
    → IsScriptedBy new (record s { lines = s.lines ++ l ∷ [] })
scripted_more old new s l h f n g t = record {
  held_is = t;
  primary = h.primary;
  lines_fit = script_fits_more [] s.lines l h.lines_fit f g;
  known =
      All-append (NamesBelow (screen_count s.config)) s.lines (l ∷ []) h.known
      (one_is (NamesBelow (screen_count s.config)) l n);
}

-- ---- one line's words

pub judged_by : (s : ScriptSoFar) (words arguments : List (List ℕ)) (form : ScriptForm)
    → find (λ f. takes (script_row f) words) script_forms ≡ Some form
    → misplaced_by s.primary form ≡ None
    → arguments ≡ drop (length (script_row form).words) words
    → script_judged s words
    ≡ (line_of script_language (screen_named s.config) form arguments
    >>= λ i. script_add s i)
unfolding words_judged
judged_by s words arguments form f m a = rw (f, m, a) refl

-- a line that is not made is refused for the same
pub fault_passes : {X Y A B : Type 0} (view : X → A) (other : Y → B) (e : LineFault)
    (read : Result A TextKind) (f : A → Result B TextKind)
    → LineGives view (Err e) read → LineGives other (Err e) (read >>= f)
fault_passes {A = A} view other (line_fault.Refused k) read f h =
    ap (λ (r : Result A TextKind). r >>= f) h
fault_passes view other line_fault.OutOfMemory read f h = tt

pub gives_as : {X Y : Type 0} (view : X → Y) (r : Result X LineFault) (a b : Result Y TextKind)
    → a ≡ b → LineGives view r a → LineGives view r b
gives_as {Y = Y} view r a b e h = subst (λ (x : Result Y TextKind). LineGives view r x) e h

-- ---- the configuration stays as it is

adding_keeps : (s d : ScriptSoFar) (i : ScriptItem) → script_add s i ≡ Ok d → d.config ≡ s.config
adding_keeps s d (item.Primary p) h =
    let same : record s { primary = Some p } ≡ d = cc in
    ap (λ (x : ScriptSoFar). x.config) (sym same)
adding_keeps s d (item.Line l) h =
    let b =
    after_good (unless_kind (script_fault s.lines l))
    (λ _. Ok (record s { lines = s.lines ++ l ∷ [] })) d h in
    let same : record s { lines = s.lines ++ l ∷ [] } ≡ d = cc in
    ap (λ (x : ScriptSoFar). x.config) (sym same)

words_keep : (s d : ScriptSoFar) (words : List (List ℕ)) → script_judged s words ≡ Ok d
    → d.config ≡ s.config
unfolding words_judged
words_keep s d words h =
    let a =
    after_good (or_kind (find (λ f. takes (script_row f) words) script_forms) kind.BadWord) _ d
    h in
    let b = after_good (unless_kind (misplaced_by s.primary a.0)) _ d a.2 in
    let e =
    after_good
    (line_of script_language (screen_named s.config) a.0
    (drop (length (script_row a.0).words) words))
    _ d b.2 in
    adding_keeps s d e.0 e.2

line_keeps : (s d : ScriptSoFar) (l : LineText) → line_judged script_judged s l ≡ Ok d
    → d.config ≡ s.config
line_keeps s d Empty h = let same : s ≡ d = cc in ap (λ (x : ScriptSoFar). x.config) (sym same)
line_keeps s d (Forbidden place) h = absurd cc
line_keeps s d (Words bytes end) h = words_keep s d (words_of bytes) h

placed_keeps : (t : Bool) (n : ℕ) (s d : ScriptSoFar) (r : Result ScriptSoFar TextKind)
    → cond t (Err (refused_at n kind.TooLong)) (at_line n r) ≡ Ok d → r ≡ Ok d
placed_keeps true n s d r h = absurd cc
placed_keeps false n s d (Ok e) h =
    let same : e ≡ d = cc in
    ap (λ (x : ScriptSoFar). let a : Result ScriptSoFar TextKind = Ok x in a) same
placed_keeps false n s d (Err k) h = absurd cc

lines_keep : (n : ℕ) (s d : ScriptSoFar) (ls : List (List ℕ))
    → LeadsOver (numbered script_judged) n s ls d → d.config ≡ s.config
lines_keep n s d [] h = ap (λ (x : ScriptSoFar). x.config) (sym h)
lines_keep n s d (l ∷ ls) h =
    lines_keep (n + 1) h.0 d ls h.2
    ∙ line_keeps s h.0 (line_text l)
    (placed_keeps (nat_lt 1000000 n) n s h.0 (line_judged script_judged s (line_text l))
    h.1)

pub text_keeps : (s d : ScriptSoFar) (text : List ℕ) → text_judged script_judged s text ≡ Ok d
    → d.config ≡ s.config
text_keeps s d text h =
    lines_keep 1 s d (lines text) (leads (numbered script_judged) 1 s (lines text) d h)
