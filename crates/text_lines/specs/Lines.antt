-- What of a line counts.
use Rattle.std.specs.Prelude.{ℕ, not, ◌==◌, ◌&&◌, if◌then◌else◌, List, [], ◌∷◌, length, take}
use Rattle.std.specs.Prelude.{Option, Some, None}
use Rattle.std.specs.List.{position}
use Rattle.text_lines.specs.Bytes.{is_blank, is_allowed, unblanked}
use Rattle.text_lines.specs.Reading.{is_empty}

-- the line without its comment, which a # begins
abbrev pub cut_at : Option ℕ → List ℕ → List ℕ
cut_at None xs = xs
cut_at (Some n) xs = take n xs

abbrev pub uncommented : List ℕ → List ℕ
uncommented xs = cut_at (position (λ b. b == 35) xs) xs

-- without the blanks at the end
unfoldable pub trimmed : List ℕ → List ℕ
trimmed [] = []
trimmed (b ∷ bs) = if is_blank b && is_empty (trimmed bs) then [] else b ∷ trimmed bs

-- a line has no words, or a byte that may not stand there (at so many bytes from its begin), or
-- words, with blanks at neither end; it ends so many bytes from its begin
pub data LineText : Type 0 where
  Empty : LineText
  Forbidden : ℕ → LineText
  Words : List ℕ → ℕ → LineText

abbrev pub words_from : List ℕ → ℕ → LineText
words_from [] end = Empty
words_from (b ∷ bs) end = Words (b ∷ bs) end

abbrev pub unless_forbidden : Option ℕ → List ℕ → LineText
unless_forbidden (Some place) xs = Forbidden place
unless_forbidden None xs = words_from (unblanked (trimmed xs)) (length (trimmed xs))

-- what counts of a line
unfoldable pub line_text : List ℕ → LineText
line_text raw =
    unless_forbidden (position (λ b. not (is_allowed b)) (uncommented raw)) (uncommented raw)
