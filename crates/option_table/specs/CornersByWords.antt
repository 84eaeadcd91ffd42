-- The corners that words make, said for each corner: by the last word that speaks of it.
use Rattle.std.specs.Prelude.{◌≡◌, ℕ, Bool, true, false, not, ◌==◌, ◌&&◌, ◌||◌, List, [], ◌∷◌, ◌++◌}
use Rattle.std.specs.Prelude.{drop, Option, Some, None, is_some, codes, bit_and}
use Rattle.std.specs.List.{list_any}
use Rattle.std.specs.Str.{bytes_eq}
use Rattle.text_lines.specs.Reading.{begins}
use Rattle.option_table.specs.declared.corners.CornerWord.{CornerWord}
use Rattle.option_table.specs.Corners.{corner_of, corner_named}

pub data Corner : Type 0 where
  TopLeft : Corner
  TopRight : Corner
  BottomLeft : Corner
  BottomRight : Corner

abbrev pub bit_of : Corner → ℕ
bit_of TopLeft = 1
bit_of TopRight = 2
bit_of BottomLeft = 4
bit_of BottomRight = 8

-- it is in the set
abbrev pub has : ℕ → Corner → Bool
has set c = not (bit_and set (bit_of c) == 0)

-- a word of the table names it
abbrev pub word_has : Option CornerWord → Corner → Bool
word_has None c = false
word_has (Some w) c = has (corner_of w).corners c

abbrev pub names : List ℕ → Corner → Bool
names word c = word_has (corner_named word) c

-- the word adds the corner: it names it, with a + or without a sign
abbrev pub adds : Corner → List ℕ → Bool
adds c word = names word c || (begins 43 word && names (drop 1 word) c)

-- the word takes it away: it names it with a -, or is `none`
abbrev pub removes : Corner → List ℕ → Bool
removes c word = bytes_eq (codes "none") word || (begins 45 word && names (drop 1 word) c)

-- a word adds the corner, and none behind that one takes it away
pub record IsAdded (c : Corner) (words : List (List ℕ)) : Type 0 where
  pub before : List (List ℕ)
  pub word : List ℕ
  pub behind : List (List ℕ)
  pub parts : words ≡ before ++ word ∷ behind
  pub added : adds c word ≡ true
  pub kept : list_any (removes c) behind ≡ false

-- a word of the table, maybe with a sign
abbrev pub is_corner_word : List ℕ → Bool
is_corner_word word =
    is_some (corner_named word)
    || ((begins 43 word || begins 45 word) && is_some (corner_named (drop 1 word)))

abbrev pub is_some_word : List (List ℕ) → Bool
is_some_word [] = false
is_some_word (word ∷ words) = true
