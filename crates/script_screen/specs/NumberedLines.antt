-- A text's lines, numbered from 1, of which only so many are read.
use Rattle.std.specs.Prelude.{ℕ, nat_lt, if◌then◌else◌, List, Result, Ok, Err}
use Rattle.std.specs.Str.Lines.{lines}
use Rattle.text_lines.specs.Lines.{LineText, Empty, Forbidden, Words, line_text}
use Rattle.text_lines.specs.LineByLine.{all_lines}
use Rattle.text_lines.specs.Words.{words_of}
use Rattle.script_screen.specs.declared.kinds.TextKind.{TextKind}
use Rattle.script_screen.specs.declared.kinds.TextKind.TheVariants as kind

-- the line that is refused, and what is wrong with it first
pub record TextRefusal : Type 0 where
  pub line : ℕ
  pub kind : TextKind

abbrev pub refused_at : ℕ → TextKind → TextRefusal
refused_at line k = record { line = line; kind = k }

-- a line without words adds nothing, and a byte that may not stand in it is a bad word
abbrev pub line_judged : {D : Type 0} → (D → List (List ℕ) → Result D TextKind) → D → LineText
    → Result D TextKind
line_judged judge draft Empty = Ok draft
line_judged judge draft (Forbidden place) = Err kind.BadWord
line_judged judge draft (Words bytes end) = judge draft (words_of bytes)

abbrev pub at_line : {D : Type 0} → ℕ → Result D TextKind → Result D TextRefusal
at_line line (Ok draft) = Ok draft
at_line line (Err k) = Err (refused_at line k)

-- a line with its number, which counts empty lines too
abbrev pub numbered : {D : Type 0} → (D → List (List ℕ) → Result D TextKind) → ℕ → D → List ℕ
    → Result D TextRefusal
numbered judge line draft raw =
    if nat_lt 1000000 line then Err (refused_at line kind.TooLong)
    else at_line line (line_judged judge draft (line_text raw))

-- what all lines of a text give, one after another
abbrev pub text_judged : {D : Type 0} → (D → List (List ℕ) → Result D TextKind) → D → List ℕ
    → Result D TextRefusal
text_judged judge draft text = all_lines (numbered judge) 1 draft (lines text)
