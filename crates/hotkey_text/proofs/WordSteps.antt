-- One word of a hotkey's line, with the gap behind it: what a run of bytes takes, and how a chain
-- of readers is taken apart.
use Rattle.std.proofs.Common.{◌≡◌, ℕ, Bool, true, false, List, ◌∷◌, ◌++◌, length, Option, Some}
use Rattle.std.proofs.Common.{None, Result, Ok, Err, refl, ap, sym, ◌∙◌}
use Rattle.std.specs.List.{find}
use Rattle.std.specs.Str.{bytes_eq}
use Rattle.std.proofs.lemmas.Slice.Eq.{bytes_eq-Decides}
use Rattle.text_lines.specs.declared.bytes.WordKind.{WordKind}
use Rattle.text_lines.specs.Bytes.{takes, behind, is_tight, unblanked}
use Rattle.text_lines.specs.Reading.{◌>>=◌, run_at}
use Rattle.text_lines.specs.Spelling.{IsRun}
use Rattle.text_lines.proofs.MaybeSigns.{begun}
use Rattle.text_lines.proofs.SpelledWords.{Breaks, has_no_blank, run_takes, gap_again, gap_breaks}
use Rattle.text_lines.proofs.SpelledWords.{front_again, behind_again, text_of}
use Rattle.hotkey_rules.proofs.FirstFound.{found_listed}
use Rattle.hotkey_text.specs.declared.faults.HotkeyFault.{HotkeyFault}
use Rattle.hotkey_text.specs.declared.faults.HotkeyKind.{HotkeyKind}
use Rattle.hotkey_text.specs.Faults.{unless, or_fault}
use Rattle.hotkey_text.specs.Chords.{closed_at}
use Rattle.hotkey_text.specs.SpellingWords.{SpellsWord, SpellsLast}

-- a step that went well, and the one before it
pub went : {A B E : Type 0} (r : Result A E) (f : A → Result B E) (b : B) → (r >>= f) ≡ Ok b
    → (a : A) × (r ≡ Ok a) × (f a ≡ Ok b)
went (Ok a) f b e = (a, refl, e)
went (Err x) f b e = absurd cc

pub there : {A : Type 0} (o : Option A) (k : HotkeyKind) (left : ℕ) (a : A)
    → or_fault o k left ≡ Ok a → o ≡ Some a
there (Some x) k left a e = let same : x ≡ a = cc in ap (λ y. Some y) same
there None k left a e = absurd cc

-- what a test says that went well
pub test_passed : (t : Bool) (k : HotkeyKind) (left : ℕ) (u : Unit {0}) → unless t k left ≡ Ok u
    → t ≡ true
test_passed true k left u e = refl
test_passed false k left u e = absurd cc

-- one answer alone
pub one_read : {A : Type 0} (r : Result A HotkeyFault) (x y : A) → r ≡ Ok x → r ≡ Ok y → x ≡ y
one_read (Ok z) x y h k = cc
one_read (Err f) x y h k = absurd cc

-- ---- words

pub word_made : (p : ℕ → Bool) (xs : List ℕ) (rest : List ℕ) → (run_at p xs).1 ≡ rest
    → SpellsWord xs (run_at p xs).0.text rest
word_made p xs rest e =
    let run = run_takes p xs in
    record {
      behind_word = run.gap.gap;
      text =
          run.parts
          ∙ ap (λ (x : List ℕ). (run_at p xs).0.text ++ x)
          (run.gap.parts ∙ ap (λ (x : List ℕ). run.gap.gap ++ x) e);
      gap = run.gap.blank;
    }

pub last_made : (p : ℕ → Bool) (xs : List ℕ) (u : Unit {0}) → closed_at (run_at p xs).1 ≡ Ok u
    → SpellsLast xs (run_at p xs).0.text
last_made p xs u e =
    let close = begun 41 (run_at p xs).1 (test_passed _ _ _ u e) in
    (close.0, word_made p xs (41 ∷ close.0) close.1)

-- a word is read up to a byte of another kind that is no blank
pub word_read : (k : WordKind) → has_no_blank k ≡ true → (xs word rest : List ℕ)
    → SpellsWord xs word rest → IsRun (takes k) word → Breaks (takes k) rest → is_tight rest ≡ true
    → run_at (takes k) xs ≡ (text_of word (length xs), rest)
word_read k s xs word rest w run breaks tight =
    let tail = w.behind_word ++ rest in
    let breaks_all = gap_breaks k s w.behind_word rest w.gap breaks in
    ap (run_at (takes k)) w.text
    ∙ ap
    (λ (t : List ℕ).
    (text_of t (length (word ++ tail)), unblanked (behind (takes k) (word ++ tail))))
    (front_again (takes k) word tail run breaks_all)
    ∙ ap (λ (t : List ℕ). (text_of word (length (word ++ tail)), unblanked t))
    (behind_again (takes k) word tail run breaks_all)
    ∙ ap (λ (t : List ℕ). (text_of word (length (word ++ tail)), t))
    (gap_again w.behind_word rest w.gap tight)
    ∙ ap (λ (t : List ℕ). (text_of word (length t), rest)) (sym w.text)

-- the word of a table that was found
pub table_word : {A : Type 0} (text : A → List ℕ) (all : List A) (word : List ℕ) (x : A)
    → find (λ y. bytes_eq (text y) word) all ≡ Some x → word ≡ text x
table_word text all word x h =
    sym ((bytes_eq-Decides (text x) word).0 (found_listed (λ y. bytes_eq (text y) word) all x h).1)
