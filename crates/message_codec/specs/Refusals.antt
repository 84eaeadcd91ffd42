-- Why a body spells no message.
use Rattle.std.specs.Prelude.{◌≡◌, ℕ, ◌+◌, ◌<◌, ◌^◌, ◌⊎◌, Bool, true, false, nat_lt, ◌||◌, List, []}
use Rattle.std.specs.Prelude.{◌∷◌, ◌++◌, length, map, take, position, Some, None}
use Rattle.std.specs.List.{flat_map, AllByRecursion}
use Rattle.std.specs.Int.{w32, to_be_bytes}
use Rattle.message_codec.specs.declared.messages.End.{End}
use Rattle.message_codec.specs.declared.coding.Code.{Code}
use Rattle.message_codec.specs.declared.faults.BadBody.{BadBody}
use Rattle.message_codec.specs.declared.faults.BadBody.TheVariants as bad
use Rattle.message_codec.specs.declared.faults.DecodeFault.{DecodeFault}
use Rattle.message_codec.specs.declared.faults.DecodeFault.TheVariants as fault
use Rattle.message_codec.specs.Kinds.{Kind}
use Rattle.message_codec.specs.Kinds as kind
use Rattle.message_codec.specs.Fields.{Field, Byte, Half, Signed, Word, Clip, Mark, Text, Words}
use Rattle.message_codec.specs.Fields.{kind_of, Fits, spelled_all}
use Rattle.message_codec.specs.Table.{text, SentBy, kinds, has_list}

-- the body is a code that this end sends, then these fields, and then a rest
pub record Begins (from : End) (body : List ℕ) (c : Code) (fs : List Field) (rest : List ℕ)
    : Type 0 where
  pub sent : SentBy c from
  pub fits : AllByRecursion Fits fs
  pub body_is : body ≡ text c ++ (spelled_all fs ++ rest)

-- ---- a part that doesn't fit

-- nothing of a field is there, and fewer bytes than its first part has
abbrev pub LacksFirst : ℕ → List ℕ → List ℕ → Type 0
LacksFirst size parts left = (parts ≡ []) × (length left < size)

-- whole parts of a field of that kind are there, and fewer bytes than its next part has. A string
-- is its length and its bytes, and a list is its count and each of its integers
abbrev pub Lacks : Kind → List ℕ → List ℕ → Type 0
Lacks kind.byte parts left = LacksFirst 1 parts left
Lacks kind.clip parts left = LacksFirst 1 parts left
Lacks kind.mark parts left = LacksFirst 1 parts left
Lacks kind.half parts left = LacksFirst 2 parts left
Lacks kind.signed parts left = LacksFirst 2 parts left
Lacks kind.word parts left = LacksFirst 4 parts left
Lacks kind.text parts left =
    LacksFirst 4 parts left
    ⊎ ((n : ℕ) × (n < 2 ^ 32) × (parts ≡ to_be_bytes w32 n) × (length left < n))
Lacks kind.words parts left =
    LacksFirst 4 parts left
    ⊎ ((n : ℕ) × (ns : List ℕ) × (n < 2 ^ 32)
    × (parts ≡ to_be_bytes w32 n ++ flat_map (to_be_bytes w32) ns) × (length ns < n)
    × (length left < 4))

-- fields of the row are whole, and a part of the next one doesn't fit
pub record IsShort (from : End) (body : List ℕ) (at : ℕ) : Type 0 where
  pub code : Code
  pub whole : List Field
  pub next : Kind
  pub later : List Kind
  pub parts : List ℕ
  pub left : List ℕ
  pub begins : Begins from body code whole (parts ++ left)
  pub row : kinds code ≡ map kind_of whole ++ next ∷ later
  pub lacks : Lacks next parts left
  pub place : at ≡ length (text code) + length (spelled_all whole) + length parts

-- ---- whole fields

-- all fields of the row are whole, and then comes a rest
pub record Whole (from : End) (body : List ℕ) (c : Code) (fs : List Field) (rest : List ℕ)
    : Type 0 where
  pub begins : Begins from body c fs rest
  pub row : kinds c ≡ map kind_of fs

-- a clipboard above 1
abbrev pub is_bad_clip : Field → Bool
is_bad_clip (Clip n) = nat_lt 1 n
is_bad_clip (Mark n) = false
is_bad_clip (Byte n) = false
is_bad_clip (Half n) = false
is_bad_clip (Signed z) = false
is_bad_clip (Word n) = false
is_bad_clip (Text bytes) = false
is_bad_clip (Words ns) = false

-- a part of a clipboard other than 1, 2 and 3
abbrev pub is_bad_mark : Field → Bool
is_bad_mark (Mark n) = nat_lt n 1 || nat_lt 3 n
is_bad_mark (Clip n) = false
is_bad_mark (Byte n) = false
is_bad_mark (Half n) = false
is_bad_mark (Signed z) = false
is_bad_mark (Word n) = false
is_bad_mark (Text bytes) = false
is_bad_mark (Words ns) = false

-- where the field of that index stands, in bytes from the body's beginning
abbrev pub place_of : Code → List Field → ℕ → ℕ
place_of c fs i = length (text c) + length (spelled_all (take i fs))

-- a field is out of range: the first clipboard that is bad, or where none is, the first mark
abbrev pub Misfits : BadBody → Code → List Field → Type 0
Misfits (bad.BadClip at) c fs =
    (i : ℕ) × (position is_bad_clip fs ≡ Some i) × (at ≡ place_of c fs i)
Misfits (bad.BadMark at) c fs =
    (position is_bad_clip fs ≡ None)
    × ((i : ℕ) × (position is_bad_mark fs ≡ Some i) × (at ≡ place_of c fs i))
Misfits bad.UnknownCode c fs = ⊥
Misfits bad.WrongEnd c fs = ⊥
Misfits (bad.Short at) c fs = ⊥
Misfits (bad.Trailing at) c fs = ⊥

-- ---- the six refusals

-- no code begins the body; or none that this end sends; or a part of a field doesn't fit; or bytes
-- stand after the fields; or a field is out of range
abbrev pub Refuses : BadBody → End → List ℕ → Type 0
Refuses bad.UnknownCode from body = (c : Code) (rest : List ℕ) → body ≡ text c ++ rest → ⊥
Refuses bad.WrongEnd from body =
    ((c : Code) × (rest : List ℕ) × (body ≡ text c ++ rest))
    × ((c : Code) (rest : List ℕ) → SentBy c from → body ≡ text c ++ rest → ⊥)
Refuses (bad.Short at) from body = IsShort from body at
Refuses (bad.Trailing at) from body =
    (c : Code) × (fs : List Field) × (rest : List ℕ) × Whole from body c fs rest × (0 < length rest)
    × (at ≡ length (text c) + length (spelled_all fs))
Refuses (bad.BadClip at) from body =
    (c : Code) × (fs : List Field) × Whole from body c fs [] × Misfits (bad.BadClip at) c fs
Refuses (bad.BadMark at) from body =
    (c : Code) × (fs : List Field) × Whole from body c fs [] × Misfits (bad.BadMark at) c fs

-- the body begins with the code of a row with a string or a list, which this end sends
pub record TakesMemory (from : End) (body : List ℕ) : Type 0 where
  pub code : Code
  pub rest : List ℕ
  pub sent : SentBy code from
  pub begins : body ≡ text code ++ rest
  pub list : has_list code ≡ true

-- a fault of decoding has its cause in the body, and no memory is wanted for a body without strings
-- and lists
abbrev pub RefusedFor : DecodeFault → End → List ℕ → Type 0
RefusedFor (fault.Bad why) from body = Refuses why from body
RefusedFor fault.OutOfMemory from body = TakesMemory from body
