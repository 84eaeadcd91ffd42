-- The words of MODS+KEY and of MODS+NUMBER, good or not. Each list of bytes here is the line from
-- there on.
use Rattle.std.specs.Prelude.{◌≡◌, ℕ, zero, suc, true, false, List, [], ◌∷◌, ◌++◌, length, Option}
use Rattle.std.specs.Prelude.{Some, None}
use Rattle.text_lines.specs.declared.bytes.WordKind.TheVariants as word_kind
use Rattle.text_lines.specs.Bytes.{takes, is_tight}
use Rattle.text_lines.specs.Reading.{Text, run_at, maybe_sign_at, begins}
use Rattle.text_lines.specs.Spelling.{IsRun, IsGap}

-- the words with a + behind them, then the last one, then what follows its gap
pub record ChordWords : Type 0 where
  pub mods : List Text
  pub last : Text
  pub rest : List ℕ

abbrev pub with_mod : Text → ChordWords → ChordWords
with_mod word words = record words { mods = word ∷ words.mods }

abbrev pub word_or_last : (List ℕ → ChordWords) → Text × List ℕ → Option (List ℕ) → ChordWords
word_or_last more word None = record { mods = []; last = word.0; rest = word.1 }
word_or_last more word (Some rest) = with_mod word.0 (more rest)

unfoldable pub words_within : ℕ → List ℕ → ChordWords
words_within zero xs =
    let word = run_at (takes word_kind.Chord) xs in
    record { mods = []; last = word.0; rest = word.1 }
words_within (suc n) xs =
    let word = run_at (takes word_kind.Chord) xs in
    word_or_last (words_within n) word (maybe_sign_at 43 word.1)

-- no text has more of them than bytes
abbrev pub chord_words : List ℕ → ChordWords
chord_words xs = words_within (length xs) xs

-- ---- the same in their own words

-- a word of that kind, maybe empty, up to a byte of another, and what follows its gap
pub record SpellsPart (xs : List ℕ) (word : Text) (rest : List ℕ) : Type 0 where
  pub tail : List ℕ
  pub gap : List ℕ
  pub text : xs ≡ word.text ++ tail
  pub behind : tail ≡ gap ++ rest
  pub run : IsRun (takes word_kind.Chord) word.text
  pub whole : (b : ℕ) (bs : List ℕ) → tail ≡ b ∷ bs → takes word_kind.Chord b ≡ false
  pub blank : IsGap gap
  pub tight : is_tight rest ≡ true
  pub place : word.left ≡ length xs

pub record SpellsMore (xs : List ℕ) (word : Text) (Others : List ℕ → Type 0) : Type 0 where
  pub behind_sign : List ℕ
  pub rest : List ℕ
  pub part : SpellsPart xs word (43 ∷ (behind_sign ++ rest))
  pub gap : IsGap behind_sign
  pub tight : is_tight rest ≡ true
  pub others : Others rest

abbrev pub SpellsParts : List ℕ → List Text → List ℕ → Type 0
SpellsParts xs [] here = xs ≡ here
SpellsParts xs (word ∷ words) here = SpellsMore xs word (λ rest. SpellsParts rest words here)

-- the words that stand there, and no + behind the last
pub record SpellsChordWords (xs : List ℕ) (words : ChordWords) : Type 0 where
  pub here : List ℕ
  pub mods : SpellsParts xs words.mods here
  pub last : SpellsPart here words.last words.rest
  pub none : begins 43 words.rest ≡ false
