-- The forms of lines: which words and signs stand in them, in order. A form that can't go on says
-- how many bytes were left there.
use Rattle.std.specs.Prelude.{ℕ, if◌then◌else◌, List, length, Result, Ok, Option, Some, None, codes}
use Rattle.share_base.specs.declared.shape.Side.{Side}
use Rattle.text_lines.specs.declared.bytes.WordKind.TheVariants as kind
use Rattle.text_lines.specs.Bytes.{takes, unblanked}
use Rattle.text_lines.specs.Reading.{Read, ◌>>=◌, Text, run_at, word_at, sign_at, literal_at}
use Rattle.text_lines.specs.Reading.{end_at, begins, or_left, number_at}
use Rattle.share_base.specs.Sides.{side_named}

-- section: NAME
unfoldable pub section_at : List ℕ → Result Text ℕ
section_at xs = do
  rest ← literal_at (codes "section") xs
  rest ← sign_at 58 (unblanked rest)
  name ← word_at (takes kind.Solid) rest
  _ ← end_at name.1
  Ok name.0

-- NAME:
unfoldable pub header_at : List ℕ → Result Text ℕ
header_at xs = let name = run_at (takes kind.Name) xs in do
  rest ← sign_at 58 name.1
  _ ← end_at rest
  Ok name.0

-- NAME
unfoldable pub alias_at : List ℕ → Result Text ℕ
alias_at xs = do
  name ← word_at (takes kind.Name) xs
  _ ← end_at name.1
  Ok name.0

pub record RangeText : Type 0 where
  pub a : ℕ
  pub b : ℕ
  pub left : ℕ

-- (a,b)
unfoldable pub range_at : List ℕ → Read RangeText
range_at xs = do
  rest ← sign_at 40 xs
  a ← number_at rest
  rest ← sign_at 44 a.1
  b ← number_at rest
  rest ← sign_at 41 b.1
  Ok (record { a = a.0; b = b.0; left = length xs }, rest)

-- a range where a bracket opens, else none
unfoldable pub maybe_range_at : List ℕ → Read (Option RangeText)
maybe_range_at xs =
    if begins 40 xs then (range_at xs >>= λ r. Ok (Some r.0, r.1)) else Ok (None, xs)

pub record LinkText : Type 0 where
  pub side : Side
  pub left : ℕ
  pub source : Option RangeText
  pub name : Text
  pub target : Option RangeText

-- SIDE[(a,b)] = NAME[(c,d)]
unfoldable pub link_at : List ℕ → Result LinkText ℕ
link_at xs = do
  word ← word_at (takes kind.Side) xs
  side ← or_left (side_named word.0.text) word.0.left
  source ← maybe_range_at word.1
  rest ← sign_at 61 source.1
  name ← word_at (takes kind.Name) rest
  target ← maybe_range_at name.1
  _ ← end_at target.1
  Ok (record { side = side; left = length xs; source = source.0; name = name.0; target = target.0 })

pub record SettingText : Type 0 where
  pub key : Text
  pub value : Text

-- KEY = VALUE
unfoldable pub setting_at : List ℕ → Result SettingText ℕ
setting_at xs = do
  key ← word_at (takes kind.Key) xs
  value ← sign_at 61 key.1
  Ok (record { key = key.0; value = record { text = value; left = length value } })
