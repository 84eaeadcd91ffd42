-- The lines of a log, and the words of a line.
use Rattle.std.specs.Prelude.{ℕ, zero, suc, ◌+◌, ◌-◌, ◌*◌, ◌==◌, if◌then◌else◌, fold, List, []}
use Rattle.std.specs.Prelude.{◌∷◌}

-- ---- lines

-- the lines that a newline ends, each without it, and what follows the last newline
pub record LinesAndRest : Type 0 where
  pub lines : List (List ℕ)
  pub rest : List ℕ

abbrev pub lines_and_rest : List (List ℕ) → List ℕ → LinesAndRest
lines_and_rest lines rest = record { lines = lines; rest = rest }

-- with a byte in front
abbrev pub after_byte : ℕ → List (List ℕ) → List ℕ → LinesAndRest
after_byte b [] rest =
    if b == 10 then lines_and_rest ([] ∷ []) rest else lines_and_rest [] (b ∷ rest)
after_byte b (line ∷ lines) rest =
    if b == 10 then lines_and_rest ([] ∷ line ∷ lines) rest
    else lines_and_rest ((b ∷ line) ∷ lines) rest

unfoldable pub split_lines : List ℕ → LinesAndRest
split_lines [] = lines_and_rest [] []
split_lines (b ∷ bs) = after_byte b (split_lines bs).lines (split_lines bs).rest

-- ---- words

-- the word that follows so many blanks, up to the next blank or the line's end
unfoldable pub word_after : ℕ → List ℕ → List ℕ
word_after k [] = []
word_after zero (b ∷ bs) = if b == 32 then [] else b ∷ word_after 0 bs
word_after (suc k) (b ∷ bs) = if b == 32 then word_after k bs else word_after (suc k) bs

-- the number that digits spell
unfoldable pub digits_value : List ℕ → ℕ
digits_value digits = fold (λ n digit. 10 * n + (digit - 48)) 0 digits
