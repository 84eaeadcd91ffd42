-- Fields that are out of range.
use Rattle.std.proofs.Common.{◌≡◌, ℕ, zero, suc, Bool, true, false, None, List, [], ◌∷◌, refl, ap}
use Rattle.std.proofs.Common.{arith}
use Rattle.std.specs.Prelude.{nat_lt, ◌||◌, position}
use Rattle.std.proofs.lemmas.Bool.{lt-ltb}
use Rattle.share_base.specs.Clips.{clip_number}
use Rattle.share_base.specs.declared.clip_id.ClipId.{ClipId}
use Rattle.share_base.specs.declared.clip_id.ClipId.TheVariants as clips
use Rattle.message_codec.specs.declared.clip_mark.ClipMark.{ClipMark}
use Rattle.message_codec.specs.declared.clip_mark.ClipMark.TheVariants as marks
use Rattle.message_codec.specs.declared.messages.Msg.{Msg}
use Rattle.message_codec.specs.declared.messages.Msg.TheVariants as msg
use Rattle.message_codec.specs.declared.coding.Code.TheVariants as code
use Rattle.message_codec.specs.declared.faults.BadBody.TheVariants as bad
use Rattle.message_codec.specs.Marks.{mark_number}
use Rattle.message_codec.specs.Fields.{Word, Clip, Mark, Text}
use Rattle.message_codec.specs.Table.{fields}
use Rattle.message_codec.specs.Refusals.{is_bad_clip, is_bad_mark, Misfits}

above_one : (n : ℕ) → ((clip : ClipId) → n ≡ clip_number clip → ⊥) → nat_lt 1 n ≡ true
above_one zero none = absurd (none clips.Clipboard refl)
above_one (suc zero) none = absurd (none clips.Selection refl)
above_one (suc (suc n)) none = lt-ltb 1 (suc (suc n)) (omega arith)

no_mark : (n : ℕ) → ((mark : ClipMark) → n ≡ mark_number mark → ⊥)
    → (nat_lt n 1 || nat_lt 3 n) ≡ true
no_mark zero none = refl
no_mark (suc zero) none = absurd (none marks.Start refl)
no_mark (suc (suc zero)) none = absurd (none marks.Chunk refl)
no_mark (suc (suc (suc zero))) none = absurd (none marks.End refl)
no_mark (suc (suc (suc (suc n)))) none =
    rw (lt-ltb 3 (suc (suc (suc (suc n)))) (omega arith))
    (either (nat_lt (suc (suc (suc (suc n)))) 1))
  where
    either : (b : Bool) → (b || true) ≡ true
    either true = refl
    either false = refl

clip_is_good : (n : ℕ) (clip : ClipId) → n ≡ clip_number clip → nat_lt 1 n ≡ false
clip_is_good n clips.Clipboard same = ap (nat_lt 1) same
clip_is_good n clips.Selection same = ap (nat_lt 1) same

pub grab_misfits : (clip seq : ℕ) → ((c : ClipId) → clip ≡ clip_number c → ⊥)
    → Misfits (bad.BadClip 4) code.Grab (Clip clip ∷ Word seq ∷ [])
grab_misfits clip seq none = (0, rw (above_one clip none) refl, refl)

pub clip_misfits : (clip seq mark : ℕ) (bytes : List ℕ) → ((c : ClipId) → clip ≡ clip_number c → ⊥)
    → Misfits (bad.BadClip 4) code.ClipPart (Clip clip ∷ Word seq ∷ Mark mark ∷ Text bytes ∷ [])
clip_misfits clip seq mark bytes none = (0, rw (above_one clip none) refl, refl)

pub mark_misfits : (clip seq mark : ℕ) (bytes : List ℕ) (c : ClipId) → clip ≡ clip_number c
    → ((m : ClipMark) → mark ≡ mark_number m → ⊥)
    → Misfits (bad.BadMark 9) code.ClipPart (Clip clip ∷ Word seq ∷ Mark mark ∷ Text bytes ∷ [])
mark_misfits clip seq mark bytes c good none =
    (rw (clip_is_good clip c good) refl, (2, rw (no_mark mark none) refl, refl))

-- the fields of a message are in range
pub clips_are_good : (m : Msg) → position is_bad_clip (fields m) ≡ None
clips_are_good (msg.Grab clips.Clipboard seq) = refl
clips_are_good (msg.Grab clips.Selection seq) = refl
clips_are_good (msg.ClipPart clips.Clipboard seq mark bytes) = refl
clips_are_good (msg.ClipPart clips.Selection seq mark bytes) = refl
clips_are_good m = refl

pub marks_are_good : (m : Msg) → position is_bad_mark (fields m) ≡ None
marks_are_good (msg.ClipPart clip seq marks.Start bytes) = refl
marks_are_good (msg.ClipPart clip seq marks.Chunk bytes) = refl
marks_are_good (msg.ClipPart clip seq marks.End bytes) = refl
marks_are_good m = refl
