-- Sets of corners, and the words that make them.
use Rattle.std.specs.Prelude.{ℕ, ◌-◌, ◌==◌, if◌then◌else◌, List, [], ◌∷◌, drop, Option, Some, None}
use Rattle.std.specs.Prelude.{codes, bit_and, bit_or}
use Rattle.std.specs.List.{find}
use Rattle.std.specs.Str.{bytes_eq}
use Rattle.text_lines.specs.Reading.{begins}
use Rattle.text_lines.specs.Words.{words_of}
use Rattle.option_table.specs.declared.corners.CornerWord.{CornerWord}
use Rattle.option_table.specs.declared.corners.CornerWord.TheVariants as corner

-- a corner's word, and the sum of its corners: top-left 1, top-right 2, bottom-left 4, bottom-right
-- 8
pub record CornerText : Type 0 where
  pub word : List ℕ
  pub corners : ℕ

abbrev pub corner_row : List ℕ → ℕ → CornerText
corner_row word corners = record { word = word; corners = corners }

unfoldable pub corner_of : CornerWord → CornerText
corner_of corner.Nowhere = corner_row (codes "none") 0
corner_of corner.All = corner_row (codes "all") 15
corner_of corner.Left = corner_row (codes "left") 5
corner_of corner.Right = corner_row (codes "right") 10
corner_of corner.Top = corner_row (codes "top") 3
corner_of corner.Bottom = corner_row (codes "bottom") 12
corner_of corner.TopLeft = corner_row (codes "top-left") 1
corner_of corner.TopRight = corner_row (codes "top-right") 2
corner_of corner.BottomLeft = corner_row (codes "bottom-left") 4
corner_of corner.BottomRight = corner_row (codes "bottom-right") 8

abbrev pub corner_words : List CornerWord
corner_words =
    corner.Nowhere ∷ corner.All ∷ corner.Left ∷ corner.Right ∷ corner.Top ∷ corner.Bottom ∷
    corner.TopLeft ∷ corner.TopRight ∷ corner.BottomLeft ∷ corner.BottomRight ∷ []

unfoldable pub corner_named : List ℕ → Option CornerWord
corner_named word = find (λ c. bytes_eq (corner_of c).word word) corner_words

-- the set with these corners, and without them
abbrev pub with_corners : ℕ → Option CornerWord → Option ℕ
with_corners set None = None
with_corners set (Some c) = Some (bit_or set (corner_of c).corners)

abbrev pub without_corners : ℕ → Option CornerWord → Option ℕ
without_corners set None = None
without_corners set (Some c) = Some (bit_and set (15 - (corner_of c).corners))

-- a word without a sign adds its corners; that of no corner empties the set
abbrev pub plain_corners : ℕ → Option CornerWord → Option ℕ
plain_corners set None = None
plain_corners set (Some c) =
    Some (if (corner_of c).corners == 0 then 0 else bit_or set (corner_of c).corners)

-- the set after one word, which may have + or - before it
unfoldable pub after_word : ℕ → List ℕ → Option ℕ
after_word set word =
    if begins 43 word then with_corners set (corner_named (drop 1 word))
    else (if begins 45 word then without_corners set (corner_named (drop 1 word))
    else plain_corners set (corner_named word))

abbrev pub and_then : Option ℕ → (ℕ → Option ℕ) → Option ℕ
and_then None f = None
and_then (Some n) f = f n

-- the set after these words
abbrev pub after_words : ℕ → List (List ℕ) → Option ℕ
after_words set [] = Some set
after_words set (word ∷ words) = and_then (after_word set word) (λ next. after_words next words)

abbrev pub of_words : List (List ℕ) → Option ℕ
of_words [] = None
of_words (word ∷ words) = after_words 0 (word ∷ words)

-- the set that a text of one or more words makes
unfoldable pub corners_of_text : List ℕ → Option ℕ
corners_of_text text = of_words (words_of text)
