-- The grammar that the texts share: a row for each form of a line, the values that its words spell,
-- and the first fault of a line that spells none.
use Rattle.std.specs.Prelude.{ℕ, ◌+◌, ℤ, pos, negsuc, zero, suc, Bool, true, false, ◌==◌, ◌&&◌}
use Rattle.std.specs.Prelude.{nat_le, if◌then◌else◌, List, [], ◌∷◌, length, drop, Option, Some}
use Rattle.std.specs.Prelude.{None, Result, Ok, Err}
use Rattle.std.specs.Option.{option_map}
use Rattle.std.specs.List.{find}
use Rattle.std.specs.Str.{bytes_eq}
use Rattle.text_lines.specs.Reading.{◌>>=◌, begins}
use Rattle.text_lines.specs.Numbers.{decimal_of}
use Rattle.script_screen.specs.declared.kinds.TextKind.{TextKind}
use Rattle.script_screen.specs.declared.kinds.TextKind.TheVariants as kind
use Rattle.script_screen.specs.Kinds.{earlier}
use Rattle.script_screen.specs.Hex.{bytes_within}

-- what an argument is: a number from the least to the greatest, a number of 16 bits with a sign,
-- bytes from the least to the most in number, or a screen or alias
pub data Part : Type 0 where
  Number : ℕ → ℕ → Part
  Signed : Part
  Hex : ℕ → ℕ → Part
  Screen : Part

pub data Value : Type 0 where
  Natural : ℕ → Value
  Integer : ℤ → Value
  Bytes : List ℕ → Value
  Chosen : ℕ → Value

-- the words that a form begins with, and its arguments
pub record Row : Type 0 where
  pub words : List (List ℕ)
  pub parts : List Part

abbrev pub row_of : List (List ℕ) → List Part → Row
row_of words parts = record { words = words; parts = parts }

-- ---- words and their values

abbrev pub begins_with : List (List ℕ) → List (List ℕ) → Bool
begins_with [] words = true
begins_with (w ∷ ws) [] = false
begins_with (w ∷ ws) (word ∷ words) = bytes_eq w word && begins_with ws words

-- a line of that form has these words
abbrev pub takes : Row → List (List ℕ) → Bool
takes row words =
    begins_with row.words words && (length words == length row.words + length row.parts)

abbrev pub from_least : ℕ → Option ℕ → Option ℕ
from_least least None = None
from_least least (Some n) = if nat_le least n then Some n else None

abbrev pub negated : Option ℕ → Option ℤ
negated None = None
negated (Some zero) = None
negated (Some (suc n)) = Some (negsuc n)

-- a number of 16 bits, with a - before it where it is below 0
unfoldable pub signed_of : List ℕ → Option ℤ
signed_of word =
    if begins 45 word then negated (decimal_of 32768 (drop 1 word))
    else option_map pos (decimal_of 32767 word)

-- the value that a word spells as such an argument
abbrev pub argument_of : (List ℕ → Option ℕ) → Part → List ℕ → Option Value
argument_of screens (Number least most) word =
    option_map Natural (from_least least (decimal_of most word))
argument_of screens Signed word = option_map Integer (signed_of word)
argument_of screens (Hex least most) word = option_map Bytes (bytes_within least most word)
argument_of screens Screen word = option_map Chosen (screens word)

-- what is wrong where it spells none
abbrev pub kind_of : Part → TextKind
kind_of (Number least most) = kind.BadNumber
kind_of Signed = kind.BadNumber
kind_of (Hex least most) = kind.BadHex
kind_of Screen = kind.UnknownScreen

abbrev pub or_kind : {A : Type 0} → Option A → TextKind → Result A TextKind
or_kind None k = Err k
or_kind (Some a) k = Ok a

abbrev pub unless_kind : Option TextKind → Result (Unit {0}) TextKind
unless_kind None = Ok tt
unless_kind (Some k) = Err k

-- both, or of two faults the one that is looked for first
abbrev pub together : Result Value TextKind → Result (List Value) TextKind
    → Result (List Value) TextKind
together (Ok v) (Ok vs) = Ok (v ∷ vs)
together (Ok v) (Err k) = Err k
together (Err k) (Ok vs) = Err k
together (Err k) (Err j) = Err (earlier k j)

-- the values that words spell as these arguments
unfoldable pub arguments_of : (List ℕ → Option ℕ) → List Part → List (List ℕ)
    → Result (List Value) TextKind
arguments_of screens [] words = Ok []
arguments_of screens (p ∷ ps) [] = Err kind.BadWord
arguments_of screens (p ∷ ps) (word ∷ words) =
    together (or_kind (argument_of screens p word) (kind_of p)) (arguments_of screens ps words)

-- ---- a text's lines

-- the forms of a text and their rows; where a form may not stand; the line that a form and its
-- values are; and what a line makes of what the lines above it gave
pub record Language (Form Line Draft : Type 0) : Type 0 where
  pub forms : List Form
  pub row : Form → Row
  pub misplaced : Draft → Form → Option TextKind
  pub line : Form → List Value → Option Line
  pub add : Draft → Line → Result Draft TextKind

-- the form of a line of these words
abbrev pub form_of : {F L D : Type 0} → Language F L D → List (List ℕ) → Option F
form_of language words = find (λ f. takes (language.row f) words) language.forms

-- the line that a form's arguments make
abbrev pub line_of : {F L D : Type 0} → Language F L D → (List ℕ → Option ℕ) → F → List (List ℕ)
    → Result L TextKind
line_of language screens form arguments =
    arguments_of screens (language.row form).parts arguments
    >>= λ values. or_kind (language.line form values) kind.BadWord

-- one line's words, in what the lines above it gave
unfoldable pub words_judged : {F L D : Type 0} → Language F L D → (List ℕ → Option ℕ) → D
    → List (List ℕ) → Result D TextKind
words_judged language screens draft words =
    or_kind (form_of language words) kind.BadWord >>= λ form.
    unless_kind (language.misplaced draft form) >>= λ _.
    line_of language screens form (drop (length (language.row form).words) words) >>= λ line.
    language.add draft line
