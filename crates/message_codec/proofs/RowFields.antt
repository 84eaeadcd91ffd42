-- Fields of a row's kinds are a message's, or one of them is out of range.
use Rattle.std.proofs.Common.{◌≡◌, ℕ, ℤ, zero, suc, List, [], ◌∷◌, map, refl, sym, ap, subst, ◌∙◌}
use Rattle.std.proofs.Common.{arith, inl, inr}
use Rattle.std.specs.Prelude.{◌⊎◌}
use Rattle.share_base.specs.Clips.{clip_number}
use Rattle.share_base.specs.declared.clip_id.ClipId.{ClipId}
use Rattle.share_base.specs.declared.clip_id.ClipId.TheVariants as clips
use Rattle.message_codec.specs.declared.clip_mark.ClipMark.{ClipMark}
use Rattle.message_codec.specs.declared.clip_mark.ClipMark.TheVariants as marks
use Rattle.message_codec.specs.declared.messages.Msg.{Msg}
use Rattle.message_codec.specs.declared.messages.Msg.TheVariants as msg
use Rattle.message_codec.specs.declared.coding.Code.{Code}
use Rattle.message_codec.specs.declared.coding.Code.TheVariants as code
use Rattle.message_codec.specs.declared.faults.BadBody.{BadBody}
use Rattle.message_codec.specs.declared.faults.BadBody.TheVariants as bad
use Rattle.message_codec.specs.Marks.{mark_number}
use Rattle.message_codec.specs.Kinds.{Kind}
use Rattle.message_codec.specs.Kinds as kind
use Rattle.message_codec.specs.Fields.{Field, Byte, Half, Signed, Word, Clip, Mark, Text, Words}
use Rattle.message_codec.specs.Fields.{kind_of}
use Rattle.message_codec.specs.Table.{kinds, code_of, fields}
use Rattle.message_codec.specs.Refusals.{Misfits}
use Rattle.message_codec.specs.Messages.{the_signed, the_number, the_list, field_at, built}
use Rattle.message_codec.proofs.Misfits.{grab_misfits, clip_misfits, mark_misfits}

-- ---- fields by their kinds

abbrev Value : Kind → Type 0
Value kind.byte = ℕ
Value kind.half = ℕ
Value kind.signed = ℤ
Value kind.word = ℕ
Value kind.clip = ℕ
Value kind.mark = ℕ
Value kind.text = List ℕ
Value kind.words = List ℕ

abbrev field_with : (k : Kind) → Value k → Field
field_with kind.byte n = Byte n
field_with kind.half n = Half n
field_with kind.signed z = Signed z
field_with kind.word n = Word n
field_with kind.clip n = Clip n
field_with kind.mark n = Mark n
field_with kind.text bytes = Text bytes
field_with kind.words ns = Words ns

abbrev Values : List Kind → Type 0
Values [] = Unit {0}
Values (k ∷ ks) = Value k × Values ks

abbrev fields_with : (ks : List Kind) → Values ks → List Field
fields_with [] vs = []
fields_with (k ∷ ks) vs = field_with k vs.0 ∷ fields_with ks vs.1

abbrev HasValues : List Kind → List Field → Type 0
HasValues ks fs = (vs : Values ks) × (fs ≡ fields_with ks vs)

value_of : (f : Field) → (v : Value (kind_of f)) × (f ≡ field_with (kind_of f) v)
value_of (Byte n) = (n, refl)
value_of (Half n) = (n, refl)
value_of (Signed z) = (z, refl)
value_of (Word n) = (n, refl)
value_of (Clip n) = (n, refl)
value_of (Mark n) = (n, refl)
value_of (Text bytes) = (bytes, refl)
value_of (Words ns) = (ns, refl)

values_of : (fs : List Field) → HasValues (map kind_of fs) fs
values_of [] = (tt, refl)
values_of (f ∷ fs) =
    let v = value_of f in
    let vs = values_of fs in (
      (v.0, vs.0),
      ap (λ (g : Field). g ∷ fs) v.1
          ∙ ap (λ (gs : List Field). field_with (kind_of f) v.0 ∷ gs) vs.1,
    )

-- ---- the numbers that are looked at

-- a number is a clipboard's, or it is no clipboard's
clip_or_none : (n : ℕ)
    → ((clip : ClipId) × (n ≡ clip_number clip)) ⊎ ((clip : ClipId) → n ≡ clip_number clip → ⊥)
clip_or_none zero = inl (clips.Clipboard, refl)
clip_or_none (suc zero) = inl (clips.Selection, refl)
clip_or_none (suc (suc n)) = inr above
  where
    above : (clip : ClipId) → suc (suc n) ≡ clip_number clip → ⊥
    above clips.Clipboard same = omega arith
    above clips.Selection same = omega arith

-- the same of the parts of one
mark_or_none : (n : ℕ)
    → ((mark : ClipMark) × (n ≡ mark_number mark)) ⊎ ((mark : ClipMark) → n ≡ mark_number mark → ⊥)
mark_or_none zero = inr none
  where
    none : (mark : ClipMark) → 0 ≡ mark_number mark → ⊥
    none marks.Start same = omega arith
    none marks.Chunk same = omega arith
    none marks.End same = omega arith
mark_or_none (suc zero) = inl (marks.Start, refl)
mark_or_none (suc (suc zero)) = inl (marks.Chunk, refl)
mark_or_none (suc (suc (suc zero))) = inl (marks.End, refl)
mark_or_none (suc (suc (suc (suc n)))) = inr above
  where
    above : (mark : ClipMark) → suc (suc (suc (suc n))) ≡ mark_number mark → ⊥
    above marks.Start same = omega arith
    above marks.Chunk same = omega arith
    above marks.End same = omega arith

-- ---- the message, or the misfit

-- a message has the code and the fields, or one of them is out of range
abbrev pub Made : Code → List Field → Type 0
Made c fs = ((m : Msg) × (code_of m ≡ c) × (fields m ≡ fs)) ⊎ ((why : BadBody) × Misfits why c fs)

made_grab : (clip seq : ℕ) → Made code.Grab (Clip clip ∷ Word seq ∷ [])
made_grab clip seq =
    elim (clip_or_none clip) [
      | inl good ↦
          inl (msg.Grab good.0 seq, refl, ap (λ (n : ℕ). Clip n ∷ Word seq ∷ []) (sym good.1))
      | inr none ↦ inr (bad.BadClip 4, grab_misfits clip seq none)
    ]

made_part : (clip seq mark : ℕ) (bytes : List ℕ)
    → Made code.ClipPart (Clip clip ∷ Word seq ∷ Mark mark ∷ Text bytes ∷ [])
made_part clip seq mark bytes =
    elim (clip_or_none clip) [
      | inl good ↦ elim (mark_or_none mark) [
        | inl known ↦ inl (
          msg.ClipPart good.0 seq known.0 bytes,
          refl,
          ap (λ (n : ℕ). Clip n ∷ Word seq ∷ Mark (mark_number known.0) ∷ Text bytes ∷ [])
              (sym good.1)
              ∙ ap (λ (n : ℕ). Clip clip ∷ Word seq ∷ Mark n ∷ Text bytes ∷ []) (sym known.1),
        )
        | inr none ↦ inr (bad.BadMark 9, mark_misfits clip seq mark bytes good.0 good.1 none)
      ]
      | inr none ↦ inr (bad.BadClip 4, clip_misfits clip seq mark bytes none)
    ]

made : (c : Code) (vs : Values (kinds c)) → Made c (fields_with (kinds c) vs)
unfolding built the_signed the_number the_list field_at
made code.Grab vs = made_grab vs.0 vs.1.0
made code.ClipPart vs = made_part vs.0 vs.1.0 vs.1.1.0 vs.1.1.1.0
made c vs = inl (built c (fields_with (kinds c) vs), refl, refl)

pub row_fields : (c : Code) (fs : List Field) → kinds c ≡ map kind_of fs → Made c fs
row_fields c fs row =
    let has : HasValues (kinds c) fs =
    subst (λ (ks : List Kind). HasValues ks fs) (sym row) (values_of fs) in
    subst (Made c) (sym has.1) (made c has.0)
