-- Fields of messages, and the bytes that spell them.
use Rattle.std.specs.Prelude.{ℕ, ℤ, ◌<◌, ◌^◌, List, [], ◌∷◌, ◌++◌, length, FitsSigned}
use Rattle.std.specs.List.{flat_map, AllByRecursion}
use Rattle.std.specs.Int.{w16, w32, to_be_bytes, cast_unsigned}
use Rattle.message_codec.specs.Kinds.{Kind}
use Rattle.message_codec.specs.Kinds as kind

-- a field with its value
pub data Field : Type 0 where
  Byte : ℕ → Field
  Half : ℕ → Field
  Signed : ℤ → Field
  Word : ℕ → Field
  Clip : ℕ → Field
  Mark : ℕ → Field
  Text : List ℕ → Field
  Words : List ℕ → Field

abbrev pub kind_of : Field → Kind
kind_of (Byte n) = kind.byte
kind_of (Half n) = kind.half
kind_of (Signed z) = kind.signed
kind_of (Word n) = kind.word
kind_of (Clip n) = kind.clip
kind_of (Mark n) = kind.mark
kind_of (Text bytes) = kind.text
kind_of (Words ns) = kind.words

-- integers are big-endian, and signed ones in two's complement; a string has its length before it,
-- and a list its count
abbrev pub spelled : Field → List ℕ
spelled (Byte n) = n ∷ []
spelled (Half n) = to_be_bytes w16 n
spelled (Signed z) = to_be_bytes w16 (cast_unsigned w16 z)
spelled (Word n) = to_be_bytes w32 n
spelled (Clip n) = n ∷ []
spelled (Mark n) = n ∷ []
spelled (Text bytes) = to_be_bytes w32 (length bytes) ++ bytes
spelled (Words ns) = to_be_bytes w32 (length ns) ++ flat_map (to_be_bytes w32) ns

-- the value is in the range of its bytes
abbrev pub Fits : Field → Type 0
Fits (Byte n) = n < 2 ^ 8
Fits (Half n) = n < 2 ^ 16
Fits (Signed z) = FitsSigned w16 z
Fits (Word n) = n < 2 ^ 32
Fits (Clip n) = n < 2 ^ 8
Fits (Mark n) = n < 2 ^ 8
Fits (Text bytes) = length bytes < 2 ^ 32
Fits (Words ns) = (length ns < 2 ^ 32) × AllByRecursion (λ n. n < 2 ^ 32) ns

-- fields one after another
abbrev pub spelled_all : List Field → List ℕ
spelled_all fields = flat_map spelled fields
