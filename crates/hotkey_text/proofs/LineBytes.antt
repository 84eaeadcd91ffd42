-- The bytes of a printed line: a line of a text keeps them as they are.
use Rattle.std.proofs.Common.{◌≡◌, ℕ, ◌<◌, Bool, true, ◌==◌, List, [], ◌∷◌, ◌++◌, length, refl, sym}
use Rattle.std.proofs.Common.{subst, ◌∙◌, append_assoc, append-nil, length-append, arith}
use Rattle.std.specs.Prelude.{codes}
use Rattle.std.specs.List.{list_all, list_any}
use Rattle.std.proofs.lemmas.Bool.{and_parts, or_left, or_right}
use Rattle.std.proofs.lemmas.List.Folds.{list_any-append}
use Rattle.share_base.proofs.ListTests.{all_weaker, all_append}
use Rattle.text_lines.proofs.CleanWords.{is_plain, is_solid, IsClean, clean_solid, clean_around}
use Rattle.hotkey_rules.specs.declared.action.Action.{Action}
use Rattle.hotkey_rules.specs.declared.trigger.Trigger.{Trigger}
use Rattle.hotkey_rules.specs.declared.trigger.Trigger.TheVariants as trigger
use Rattle.hotkey_text.specs.declared.names.Deed.TheVariants as deed
use Rattle.hotkey_text.specs.declared.names.ActionName.{ActionName}
use Rattle.hotkey_text.specs.declared.names.ActionName.TheVariants as name
use Rattle.hotkey_text.specs.Names.{action_word}
use Rattle.hotkey_text.specs.Shapes.{has_some}
use Rattle.hotkey_text.specs.Printed.{key_chord_text, mouse_chord_text, call_text, trigger_text}
use Rattle.hotkey_text.specs.Printed.{action_text, between, with_commas, hotkey_text}
use Rattle.hotkey_rules.specs.WellFormed.{is_trigger}
use Rattle.hotkey_text.specs.RoundTrip.{is_argument_byte, is_spelled, texts_of}
use Rattle.hotkey_text.proofs.ArgumentBytes.{argument_plain, argument_solid}
use Rattle.hotkey_text.proofs.LinesAgain.{are_spelled}
use Rattle.hotkey_text.proofs.PrintedActions.{call_of, trigger_bytes}
use Rattle.hotkey_text.proofs.WordsFound.{each_name}

-- ---- WORD(ARGUMENT)

word_bytes : (n : ActionName) → list_all is_argument_byte (action_word n ++ 40 ∷ []) ≡ true
word_bytes = each_name (λ n. list_all is_argument_byte (action_word n ++ 40 ∷ [])) refl

-- what each byte of arguments passes, and the bracket, too
call_all : (p : ℕ → Bool) (n : ActionName) (argument : List ℕ)
    → ((b : ℕ) → is_argument_byte b ≡ true → p b ≡ true) → p 41 ≡ true
    → list_all is_argument_byte argument ≡ true
    → list_all p (call_text n argument) ≡ true
unfolding call_text
call_all p n argument each closing all =
    let bracket : list_all p (41 ∷ []) ≡ true = rw closing refl in
    all_append p ((action_word n ++ codes "(") ++ argument) (codes ")")
    (all_append p (action_word n ++ codes "(") argument
    (all_weaker is_argument_byte p each (action_word n ++ codes "(") (word_bytes n))
    (all_weaker is_argument_byte p each argument all))
    bracket

call_some : (n : ActionName) (argument : List ℕ) → 0 < length (call_text n argument)
unfolding call_text
call_some n argument =
    omega (arith, length-append ((action_word n ++ codes "(") ++ argument) (codes ")"))

call_clean : (n : ActionName) (argument : List ℕ) → list_all is_argument_byte argument ≡ true
    → IsClean (call_text n argument)
call_clean n argument all =
    clean_solid (call_text n argument) (call_all is_plain n argument argument_plain refl all)
    (call_all is_solid n argument argument_solid refl all) (call_some n argument)

action_clean : (a : Action) (screen : List ℕ) → is_spelled a screen ≡ true
    → IsClean (action_text a screen)
action_clean a screen h =
    let c = call_of a screen h in subst IsClean (sym c.is) (call_clean c.name c.argument c.bytes)

trigger_clean : (t : Trigger) → is_trigger t ≡ true → IsClean (trigger_text t)
trigger_clean (trigger.Key id mods) h =
    call_clean (name.Key deed.Stroke) (key_chord_text id mods)
    (trigger_bytes (trigger.Key id mods) h)
trigger_clean (trigger.Mouse b mods) h =
    call_clean (name.Mouse deed.Stroke) (mouse_chord_text b mods)
    (trigger_bytes (trigger.Mouse b mods) h)

-- ---- lists of actions

list_clean : (screen : Action → List ℕ) (a : Action) (actions : List Action)
    → are_spelled screen (a ∷ actions) ≡ true
    → IsClean (with_commas (texts_of screen (a ∷ actions)))
list_clean screen a [] h =
    subst IsClean (sym (append-nil (action_text a (screen a))))
    (action_clean a (screen a) (and_parts (is_spelled a (screen a)) true h).0)
list_clean screen a (b ∷ others) h =
    let parts = and_parts (is_spelled a (screen a)) (are_spelled screen (b ∷ others)) h in
    let first = action_text a (screen a) in
    let rest = with_commas (texts_of screen (b ∷ others)) in
    let same : (first ++ codes ", ") ++ rest ≡ with_commas (texts_of screen (a ∷ b ∷ others)) =
    append_assoc first (codes ", ") rest in
    subst IsClean same
    (clean_around first (codes ", ") rest (action_clean a (screen a) parts.0) refl
    (list_clean screen b others parts.1))

sign_clean : IsClean (codes ";")
sign_clean = clean_solid (codes ";") refl refl (omega arith)

abbrev both_lists : (Action → List ℕ) → List Action → List Action → List ℕ
both_lists screen press release =
    (with_commas (texts_of screen press)
    ++ between (has_some (texts_of screen press)) (has_some (texts_of screen release)))
    ++ with_commas (texts_of screen release)

lists_clean : (screen : Action → List ℕ) (press release : List Action)
    → are_spelled screen press ≡ true → are_spelled screen release ≡ true
    → IsClean (both_lists screen press release)
lists_clean screen [] [] p r = sign_clean
lists_clean screen (a ∷ press) [] p r =
    let list = with_commas (texts_of screen (a ∷ press)) in
    subst IsClean (sym (append-nil (list ++ []) ∙ append-nil list)) (list_clean screen a press p)
lists_clean screen [] (q ∷ release) p r =
    clean_around (codes ";") (codes " ") (with_commas (texts_of screen (q ∷ release))) sign_clean
    refl (list_clean screen q release r)
lists_clean screen (a ∷ press) (q ∷ release) p r =
    clean_around (with_commas (texts_of screen (a ∷ press))) (codes "; ")
    (with_commas (texts_of screen (q ∷ release))) (list_clean screen a press p) refl
    (list_clean screen q release r)

-- ---- the line

grouped : (t e p b q : List ℕ) → (t ++ e) ++ ((p ++ b) ++ q) ≡ (((t ++ e) ++ p) ++ b) ++ q
grouped t e p b q = simp append_assoc

pub line_clean : (t : Trigger) (screen : Action → List ℕ) (press release : List Action)
    → is_trigger t ≡ true → are_spelled screen press ≡ true → are_spelled screen release ≡ true
    → IsClean (hotkey_text (trigger_text t) (texts_of screen press) (texts_of screen release))
unfolding hotkey_text
line_clean t screen press release h p r =
    subst IsClean
    (grouped (trigger_text t) (codes " = ") (with_commas (texts_of screen press))
    (between (has_some (texts_of screen press)) (has_some (texts_of screen release)))
    (with_commas (texts_of screen release)))
    (clean_around (trigger_text t) (codes " = ") (both_lists screen press release)
    (trigger_clean t h) refl (lists_clean screen press release p r))

-- it has an =
pub line_equals : (start : List ℕ) (press release : List (List ℕ))
    → list_any (λ b. b == 61) (hotkey_text start press release) ≡ true
unfolding hotkey_text
line_equals start press release =
    let parts = λ (xs ys : List ℕ). list_any-append (λ b. b == 61) xs ys in
    let b = between (has_some press) (has_some release) in
    parts (((start ++ codes " = ") ++ with_commas press) ++ b) (with_commas release)
    ∙ or_left _ _ (parts ((start ++ codes " = ") ++ with_commas press) b
    ∙ or_left _ _ (parts (start ++ codes " = ") (with_commas press)
    ∙ or_left _ _ (parts start (codes " = ") ∙ or_right _ _ refl)))
