-- The words of a text: its parts between blanks.
use Rattle.std.specs.Prelude.{ℕ, not, List, filter}
use Rattle.std.specs.List.{slice_split}
use Rattle.text_lines.specs.Bytes.{is_blank}
use Rattle.text_lines.specs.Reading.{is_empty}

unfoldable pub words_of : List ℕ → List (List ℕ)
words_of xs = filter (λ w. not (is_empty w)) (slice_split is_blank xs)
