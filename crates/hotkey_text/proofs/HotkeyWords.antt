-- A line is taken for a hotkey's exactly where it begins with one of the two words and a (.
use Rattle.std.proofs.Common.{◌≡◌, ℕ, true, ◌&&◌, List, [], ◌∷◌, ◌++◌, Option, Some, None, refl, ap}
use Rattle.std.proofs.Common.{sym, ◌∙◌, arith}
use Rattle.std.specs.Prelude.{is_some}
use Rattle.std.specs.Str.{bytes_eq}
use Rattle.std.proofs.lemmas.Bool.{and_parts}
use Rattle.std.proofs.lemmas.Slice.Eq.{bytes_eq-Decides}
use Rattle.text_lines.specs.declared.bytes.WordKind.TheVariants as kind
use Rattle.text_lines.specs.Bytes.{takes}
use Rattle.text_lines.specs.Reading.{Text, run_at, begins}
use Rattle.text_lines.specs.Spelling.{IsWord}
use Rattle.text_lines.proofs.MaybeSigns.{begun}
use Rattle.text_lines.proofs.SpelledWords.{Run, run_takes, front_again, behind_again, gap_again}
use Rattle.text_lines.proofs.SpelledWords.{gap_breaks}
use Rattle.hotkey_rules.proofs.FirstFound.{found_listed}
use Rattle.hotkey_text.specs.declared.names.TriggerKind.{TriggerKind}
use Rattle.hotkey_text.specs.declared.names.TriggerKind.TheVariants as trigger
use Rattle.hotkey_text.specs.Names.{trigger_word, trigger_named}
use Rattle.hotkey_text.specs.Shapes.{is_hotkey}
use Rattle.hotkey_text.specs.Spelling.{BeginsHotkey}
use Rattle.hotkey_text.proofs.WordsFound.{trigger_found}

-- a word that is a trigger's
pub trigger_takes : (word : List ℕ) (k : TriggerKind) → trigger_named word ≡ Some k
    → word ≡ trigger_word k
trigger_takes word k h =
    sym
    ((bytes_eq-Decides (trigger_word k) word).0
    (found_listed (λ x. bytes_eq (trigger_word x) word) (trigger.Key ∷ trigger.Mouse ∷ []) k
    h).1)

pub trigger_is_word : (k : TriggerKind) → IsWord (takes kind.Key) (trigger_word k)
trigger_is_word trigger.Key = (omega arith, refl)
trigger_is_word trigger.Mouse = (omega arith, refl)

some_is : {A : Type 0} (o : Option A) → is_some o ≡ true → (x : A) × (o ≡ Some x)
some_is None h = absurd cc
some_is (Some x) h = (x, refl)

begins_by : (xs : List ℕ) (word : Text × List ℕ) → Run (takes kind.Key) xs word
    → (is_some (trigger_named word.0.text) && begins 40 word.1) ≡ true → BeginsHotkey xs
begins_by xs word r h =
    let parts = and_parts (is_some (trigger_named word.0.text)) (begins 40 word.1) h in
    let found = some_is (trigger_named word.0.text) parts.0 in
    let opens = begun 40 word.1 parts.1 in
    record {
      of = found.0;
      behind_word = r.gap.gap;
      rest = opens.0;
      text = r.parts ∙ ap (λ (t : List ℕ). t ++ r.tail) (trigger_takes word.0.text found.0 found.1)
          ∙ ap (λ (t : List ℕ). trigger_word found.0 ++ t)
          (r.gap.parts ∙ ap (λ (t : List ℕ). r.gap.gap ++ t) opens.1);
      gap = r.gap.blank;
    }

pub hotkey_begins : (xs : List ℕ) → is_hotkey xs ≡ true → BeginsHotkey xs
hotkey_begins xs h = begins_by xs (run_at (takes kind.Key) xs) (run_takes (takes kind.Key) xs) h

pub hotkey_taken : (xs : List ℕ) → BeginsHotkey xs → is_hotkey xs ≡ true
hotkey_taken xs b =
    let tail = b.behind_word ++ 40 ∷ b.rest in
    let breaks = gap_breaks kind.Key refl b.behind_word (40 ∷ b.rest) b.gap refl in
    let word = trigger_is_word b.of in
    let e : xs ≡ trigger_word b.of ++ tail = b.text in
    rw (
      e,
      front_again (takes kind.Key) (trigger_word b.of) tail word.1 breaks,
      behind_again (takes kind.Key) (trigger_word b.of) tail word.1 breaks,
      trigger_found b.of,
      gap_again b.behind_word (40 ∷ b.rest) b.gap refl,
    ) refl
