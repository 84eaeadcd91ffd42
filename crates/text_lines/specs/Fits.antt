-- A line's places lie in it.
use Rattle.std.specs.Prelude.{ℕ, ◌<◌, ◌≤◌, length}
use Rattle.text_lines.specs.declared.lines.TextLine.{TextLine}
use Rattle.text_lines.specs.declared.lines.TextLine.TheVariants as line

abbrev pub FitsLine : TextLine → ℕ → Type 0
FitsLine line.Empty len = Unit {0}
FitsLine (line.Forbidden place) len = place < len
FitsLine (line.Words words end) len = (length words.now ≤ end) × (end ≤ len)
