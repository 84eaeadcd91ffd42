-- The refusals as reading finds them.
use Rattle.std.proofs.Common.{◌≡◌, ℕ, ◌-◌, ◌<◌, List, [], ◌++◌, length, Ok, Err}
use Rattle.message_codec.specs.declared.messages.End.{End}
use Rattle.message_codec.specs.declared.coding.Code.{Code}
use Rattle.message_codec.specs.declared.faults.BadBody.{BadBody}
use Rattle.message_codec.specs.declared.faults.BadBody.TheVariants as bad
use Rattle.message_codec.specs.Fields.{Field}
use Rattle.message_codec.specs.Reading.{Read, read_fields}
use Rattle.message_codec.specs.Table.{text, SentBy, kinds}
use Rattle.message_codec.specs.Refusals.{Misfits}

-- the body begins with a code that this end sends, and the fields of its row are read so
pub record Reads (from : End) (body : List ℕ) (read : Read (List Field)) : Type 0 where
  pub code : Code
  pub sent : SentBy code from
  pub after : List ℕ
  pub begins : body ≡ text code ++ after
  pub reading : read_fields (kinds code) after ≡ read

abbrev pub Faults : BadBody → End → List ℕ → Type 0
Faults bad.UnknownCode from body = (c : Code) (rest : List ℕ) → body ≡ text c ++ rest → ⊥
Faults bad.WrongEnd from body =
    ((c : Code) × (rest : List ℕ) × (body ≡ text c ++ rest))
    × ((c : Code) (rest : List ℕ) → SentBy c from → body ≡ text c ++ rest → ⊥)
Faults (bad.Short at) from body =
    (left : ℕ) × Reads from body (Err left) × (at ≡ length body - left)
Faults (bad.Trailing at) from body =
    (fs : List Field) × (rest : List ℕ) × Reads from body (Ok (fs, rest)) × (0 < length rest)
    × (at ≡ length body - length rest)
Faults (bad.BadClip at) from body =
    (fs : List Field) × (r : Reads from body (Ok (fs, []))) × Misfits (bad.BadClip at) r.code fs
Faults (bad.BadMark at) from body =
    (fs : List Field) × (r : Reads from body (Ok (fs, []))) × Misfits (bad.BadMark at) r.code fs
