-- The printed line of a hotkey is spelled so, and is read again.
use Rattle.std.proofs.Common.{◌≡◌, ℕ, Bool, true, false, ◌||◌, List, [], ◌∷◌, ◌++◌, refl, ap, sym}
use Rattle.std.proofs.Common.{◌∙◌, ◌⊎◌, inl, inr, append_assoc, append-nil}
use Rattle.std.specs.Prelude.{codes}
use Rattle.std.specs.List.{list_all}
use Rattle.std.proofs.lemmas.Bool.{and_parts}
use Rattle.text_lines.specs.Reading.{begins}
use Rattle.hotkey_rules.specs.declared.action.Action.{Action}
use Rattle.hotkey_rules.specs.declared.trigger.Trigger.{Trigger}
use Rattle.hotkey_text.specs.Names.{trigger_word}
use Rattle.hotkey_text.specs.Shapes.{ActionForm, HotkeyForm, has_some}
use Rattle.hotkey_text.specs.Printed.{action_text, trigger_text, between, and_further, with_commas}
use Rattle.hotkey_text.specs.Printed.{hotkey_text}
use Rattle.hotkey_rules.specs.WellFormed.{is_trigger}
use Rattle.hotkey_text.specs.Spelling.{SpellsFurther, SpellsList, SpellsRelease, SpellsHotkey}
use Rattle.hotkey_text.specs.RoundTrip.{is_spelled, HaveWordsOf, texts_of, ReadsAs}
use Rattle.hotkey_text.proofs.HotkeyWords.{hotkey_taken}
use Rattle.hotkey_text.proofs.PrintedActions.{action_printed, brackets_spelled, kind_in}
use Rattle.hotkey_text.proofs.PrintedActions.{trigger_argument, trigger_is, trigger_bytes}
use Rattle.hotkey_text.proofs.PrintedActions.{chord_spelled}
use Rattle.hotkey_text.proofs.SpelledHotkeys.{hotkey_again}
use Rattle.hotkey_text.proofs.SpelledTriggers.{trigger_read}

-- ---- lists of actions

abbrev pub are_spelled : (Action → List ℕ) → List Action → Bool
are_spelled screen actions = list_all (λ a. is_spelled a (screen a)) actions

further_printed : (screen : Action → List ℕ) (actions : List Action) (rest : List ℕ)
    → are_spelled screen actions ≡ true
    → (forms : List ActionForm)
    × SpellsFurther (and_further (texts_of screen actions) ++ rest) forms rest
    × HaveWordsOf screen actions forms
further_printed screen [] rest h = ([], refl, tt)
further_printed screen (a ∷ actions) rest h =
    let parts = and_parts (is_spelled a (screen a)) (are_spelled screen actions) h in
    let behind = and_further (texts_of screen actions) ++ rest in
    let here = action_text a (screen a) ++ behind in
    let one = action_printed here a (screen a) behind refl parts.0 in
    let more = further_printed screen actions rest parts.1 in (
      one.form ∷ more.0,
      record {
        behind_comma = codes " ";
        here = here;
        rest = behind;
        text =
            append_assoc (codes ", " ++ action_text a (screen a))
            (and_further (texts_of screen actions)) rest;
        gap = refl;
        action = one.spelled;
        others = more.1;
      },
      (one.words, more.2),
    )

-- a list is spelled, begins with no ; and has as many actions
record PrintedList (xs : List ℕ) (screen : Action → List ℕ) (actions : List Action) (rest : List ℕ)
    : Type 0 where
  forms : List ActionForm
  spelled : SpellsList xs forms rest
  words : HaveWordsOf screen actions forms
  some : has_some forms ≡ has_some (texts_of screen actions)
  first : (forms ≡ []) ⊎ (begins 59 xs ≡ false)

list_printed : (screen : Action → List ℕ) (actions : List Action) (rest : List ℕ)
    → are_spelled screen actions ≡ true
    → PrintedList (with_commas (texts_of screen actions) ++ rest) screen actions rest
list_printed screen [] rest h =
    record { forms = []; spelled = refl; words = tt; some = refl; first = inl refl }
list_printed screen (a ∷ actions) rest h =
    let parts = and_parts (is_spelled a (screen a)) (are_spelled screen actions) h in
    let text = with_commas (texts_of screen (a ∷ actions)) ++ rest in
    let behind = and_further (texts_of screen actions) ++ rest in
    let one =
    action_printed text a (screen a) behind
    (append_assoc (action_text a (screen a)) (and_further (texts_of screen actions)) rest)
    parts.0 in
    let more = further_printed screen actions rest parts.1 in
    record {
      forms = one.form ∷ more.0;
      spelled = (behind, one.spelled, more.1);
      words = (one.words, more.2);
      some = refl;
      first = inr one.no_sign;
    }

-- what stands behind the press list: a ; where nothing is pressed
record PrintedEnd (xs : List ℕ) (screen : Action → List ℕ) (pressed : Bool) (release : List Action)
    : Type 0 where
  released : Bool
  forms : List ActionForm
  spelled : SpellsRelease xs released forms
  words : HaveWordsOf screen release forms
  some : (released || pressed) ≡ true

abbrev ending : (Action → List ℕ) → Bool → List Action → List ℕ
ending screen pressed release =
    between pressed (has_some (texts_of screen release)) ++ with_commas (texts_of screen release)

end_printed : (screen : Action → List ℕ) (pressed : Bool) (release : List Action)
    → are_spelled screen release ≡ true
    → PrintedEnd (ending screen pressed release) screen pressed release
end_printed screen true [] h =
    record { released = false; forms = []; spelled = (refl, refl); words = tt; some = refl }
end_printed screen false [] h =
    record {
      released = true;
      forms = [];
      spelled = ([], [], refl, refl, refl);
      words = tt;
      some = refl;
    }
end_printed screen pressed (a ∷ release) h =
    let text = with_commas (texts_of screen (a ∷ release)) in
    let l = list_printed screen (a ∷ release) [] h in
    record {
      released = true;
      forms = l.forms;
      spelled = (
        codes " ",
        text ++ [],
        ap (λ (t : List ℕ). codes "; " ++ t) (sym (append-nil text)),
        refl,
        l.spelled,
      );
      words = l.words;
      some = refl;
    }

-- ---- the line

pub line_again : (t : Trigger) (screen : Action → List ℕ) (press release : List Action)
    → is_trigger t ≡ true → are_spelled screen press ≡ true → are_spelled screen release ≡ true
    → ReadsAs (hotkey_text (trigger_text t) (texts_of screen press) (texts_of screen release))
    screen t press release
unfolding hotkey_text
line_again t screen press release h p r =
    let pressed = has_some (texts_of screen press) in
    let second = ending screen pressed release in
    let lists = with_commas (texts_of screen press) ++ second in
    let argument = trigger_argument t ++ 41 ∷ (codes " = " ++ lists) in
    let text = hotkey_text (trigger_text t) (texts_of screen press) (texts_of screen release) in
    let grouped : text ≡ trigger_text t ++ (codes " = " ++ lists) = simp append_assoc in
    let is : text ≡ trigger_word (kind_in t) ++ 40 ∷ argument =
    grouped ∙ trigger_is t (codes " = " ++ lists) in
    let down = list_printed screen press second p in
    let up = end_printed screen pressed release r in
    let line : HotkeyForm =
    record {
      kind = kind_in t;
      argument = argument;
      press = down.forms;
      released = up.released;
      release = up.forms;
    }
    in
    let some : (up.released || has_some down.forms) ≡ true =
    ap (λ (s : Bool). up.released || s) down.some ∙ up.some in
    let spelled : SpellsHotkey text line = record {
      behind_word = [];
      brackets = 40 ∷ argument;
      behind_sign = codes " ";
      lists = lists;
      second = second;
      text = is;
      argument =
          brackets_spelled (trigger_argument t) (codes " ") (61 ∷ 32 ∷ lists) (trigger_bytes t h)
          refl;
      press = down.spelled;
      release = up.spelled;
      first = down.first;
      gaps = (refl, refl);
    } in
    record {
      line = line;
      hotkey =
          hotkey_taken text
          (record { of = kind_in t; behind_word = []; rest = argument; text = is; gap = refl });
      read = hotkey_again text line spelled;
      trigger = trigger_read line t (chord_spelled t (codes " = " ++ lists) h, some);
      press = down.words;
      release = up.words;
    }
