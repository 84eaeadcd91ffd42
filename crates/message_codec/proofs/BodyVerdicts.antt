-- The verdict that is computed on a body is right.
use Rattle.std.specs.Prelude.{◌≡◌, refl, ℕ, ◌-◌, Bool, true, false, List, [], ◌∷◌, length}
use Rattle.std.specs.Prelude.{drop, position, Option, Some, None, Ok, Err, if◌then◌else◌}
use Rattle.std.specs.Option.{option_map, option_or}
use Rattle.std.proofs.Common.{arith, sym, ap, ◌∙◌, subst, inl, inr}
use Rattle.wire_frames.proofs.First.{IsBytes}
use Rattle.share_base.specs.declared.clip_id.ClipId.TheVariants as clips
use Rattle.message_codec.specs.declared.clip_mark.ClipMark.TheVariants as marks
use Rattle.message_codec.specs.declared.messages.End.{End}
use Rattle.message_codec.specs.declared.messages.End.TheVariants as ends
use Rattle.message_codec.specs.declared.messages.Msg.{Msg}
use Rattle.message_codec.specs.declared.messages.Msg.TheVariants as msg
use Rattle.message_codec.specs.declared.coding.Code.{Code}
use Rattle.message_codec.specs.declared.faults.BadBody.{BadBody}
use Rattle.message_codec.specs.declared.faults.BadBody.TheVariants as bad
use Rattle.message_codec.specs.Fields.{Field}
use Rattle.message_codec.specs.Reading.{Read, read_fields}
use Rattle.message_codec.specs.Table.{Sender, server, client, both, Sends, row, text, kinds}
use Rattle.message_codec.specs.Table.{code_of, fields}
use Rattle.message_codec.specs.Codes.{code_at}
use Rattle.message_codec.specs.Spelling.{Spells}
use Rattle.message_codec.specs.Refusals.{Refuses, Misfits, is_bad_clip, is_bad_mark, place_of}
use Rattle.message_codec.specs.Messages.{built}
use Rattle.message_codec.specs.BodyVerdicts.{clip_fault, mark_fault, unless_fault, fields_verdict}
use Rattle.message_codec.specs.BodyVerdicts.{sends, code_verdict, body_verdict, IsVerdictOn}
use Rattle.message_codec.proofs.CodeTexts.{code_at-begins, no_code, no_sent}
use Rattle.message_codec.proofs.ReadFaults.{Reads}
use Rattle.message_codec.proofs.FaultForms.{whole_is, from_faults}
use Rattle.message_codec.proofs.RefusalLaws.{misfit_faults}
use Rattle.message_codec.proofs.RowFields.{row_fields}
use Rattle.message_codec.proofs.Building.{built-parts}
use Rattle.message_codec.proofs.SpelledOrRefused.{spells_read}

-- ---- fields of a message are in range

clips_good : (m : Msg) → position is_bad_clip (fields m) ≡ None
clips_good (msg.Grab clips.Clipboard seq) = refl
clips_good (msg.Grab clips.Selection seq) = refl
clips_good (msg.ClipPart clips.Clipboard seq mark bytes) = refl
clips_good (msg.ClipPart clips.Selection seq mark bytes) = refl
clips_good m = refl

marks_good : (m : Msg) → position is_bad_mark (fields m) ≡ None
marks_good (msg.ClipPart clip seq marks.Start bytes) = refl
marks_good (msg.ClipPart clip seq marks.Chunk bytes) = refl
marks_good (msg.ClipPart clip seq marks.End bytes) = refl
marks_good m = refl

abbrev fault_of : Code → List Field → Option BadBody
fault_of c fs = option_or (clip_fault c fs) (mark_fault c fs)

no_fault : (c : Code) (m : Msg) → fault_of c (fields m) ≡ None
no_fault c m =
    ap
    (λ (o : Option ℕ).
    option_or (option_map (λ i. bad.BadClip (place_of c (fields m) i)) o)
    (mark_fault c (fields m)))
    (clips_good m)
    ∙ ap (option_map (λ i. bad.BadMark (place_of c (fields m) i))) (marks_good m)

-- ---- whole fields

made_right : (from : End) (body : List ℕ) (c : Code) (fs : List Field) (m : Msg) → code_of m ≡ c
    → fields m ≡ fs → Spells from m body
    → IsVerdictOn from body (unless_fault (fault_of c fs) (built c fs))
made_right from body c fs m codes same spells =
    let P : Code → List Field → Type 0 =
    λ d gs. IsVerdictOn from body (unless_fault (fault_of d gs) (built d gs)) in
    let as_built : Spells from (built (code_of m) (fields m)) body =
    subst (λ n. Spells from n body) (sym (built-parts m)) spells in
    let own : P (code_of m) (fields m) =
    subst (λ o. IsVerdictOn from body (unless_fault o (built (code_of m) (fields m))))
    (sym (no_fault (code_of m) m)) as_built in
    subst (λ gs. P c gs) same (subst (λ d. P d (fields m)) codes own)

misfit_right : (from : End) (body : List ℕ) (fs : List Field) (r : Reads from body (Ok (fs, [])))
    (why : BadBody)
    → Misfits why r.code fs → Refuses why from body
    → IsVerdictOn from body (unless_fault (fault_of r.code fs) (built r.code fs))
misfit_right from body fs r (bad.BadClip at) (i, found, here) refused =
    subst
    (λ o.
    IsVerdictOn from body
    (unless_fault
    (option_or (option_map (λ i. bad.BadClip (place_of r.code fs i)) o)
    (mark_fault r.code fs))
    (built r.code fs)))
    (sym found) (subst (λ n. Refuses (bad.BadClip n) from body) here refused)
misfit_right from body fs r (bad.BadMark at) (none, (i, found, here)) refused =
    subst
    (λ o.
    IsVerdictOn from body
    (unless_fault
    (option_or (option_map (λ i. bad.BadClip (place_of r.code fs i)) o)
    (mark_fault r.code fs))
    (built r.code fs)))
    (sym none)
    (subst
    (λ o.
    IsVerdictOn from body
    (unless_fault (option_map (λ i. bad.BadMark (place_of r.code fs i)) o)
    (built r.code fs)))
    (sym found) (subst (λ n. Refuses (bad.BadMark n) from body) here refused))
misfit_right from body fs r bad.UnknownCode h refused = absurd h
misfit_right from body fs r bad.WrongEnd h refused = absurd h
misfit_right from body fs r (bad.Short at) h refused = absurd h
misfit_right from body fs r (bad.Trailing at) h refused = absurd h

whole_right : (from : End) (body : List ℕ) (fs : List Field) → IsBytes body
    → (r : Reads from body (Ok (fs, [])))
    → IsVerdictOn from body (unless_fault (fault_of r.code fs) (built r.code fs))
whole_right from body fs small r =
    elim (row_fields r.code fs (whole_is from body fs [] small r).row) [
      | inl made ↦
          made_right from body r.code fs made.0 made.1 made.2
          (spells_read from body made.0 fs small r made.1 made.2)
      | inr misfit ↦
          misfit_right from body fs r misfit.0 misfit.1
          (from_faults misfit.0 from body small
          (misfit_faults misfit.0 from body r.code fs r refl misfit.1))
    ]

-- ---- what was read

read_right : (from : End) (body : List ℕ) (read : Read (List Field)) → IsBytes body
    → (r : Reads from body read) → IsVerdictOn from body (fields_verdict r.code body read)
read_right from body (Err left) small r =
    from_faults (bad.Short (length body - left)) from body small (left, r, refl)
read_right from body (Ok (fs, byte ∷ left)) small r =
    from_faults (bad.Trailing (length body - length (byte ∷ left))) from body small
    (fs, byte ∷ left, r, omega arith, refl)
read_right from body (Ok (fs, [])) small r = whole_right from body fs small r

-- ---- the code

sends_is : (s : Sender) (from : End) → sends s from ≡ true → Sends s from
sends_is server ends.Server h = refl
sends_is server ends.Client h = grind (arith, h)
sends_is client ends.Server h = grind (arith, h)
sends_is client ends.Client h = refl
sends_is both from h = tt

sends_not : (s : Sender) (from : End) → sends s from ≡ false → Sends s from → ⊥
sends_not server ends.Server h same = grind (arith, h)
sends_not server ends.Client h same = cc
sends_not client ends.Server h same = cc
sends_not client ends.Client h same = grind (arith, h)
sends_not both from h same = grind (arith, h)

code_right : (from : End) (body : List ℕ) (found : Option Code) → IsBytes body
    → code_at from body ≡ found → IsVerdictOn from body (code_verdict from body found)
code_right from body None small none = λ c rest begins. no_code from body c rest none begins
code_right from body (Some c) small found = by (sends (row c).sender from) refl
  where
    by : (b : Bool) → sends (row c).sender from ≡ b
        → IsVerdictOn from body
        (if b then fields_verdict c body (read_fields (kinds c) (drop (length (text c)) body))
        else Err bad.WrongEnd)
    by true e =
        read_right from body (read_fields (kinds c) (drop (length (text c)) body)) small
        (record {
          code = c;
          sent = sends_is (row c).sender from e;
          after = drop (length (text c)) body;
          begins = code_at-begins from body c found;
          reading = refl;
        })
    by false e = (
      (c, drop (length (text c)) body, code_at-begins from body c found),
      λ d rest sent other.
          no_sent from body c d rest found (sends_not (row c).sender from e) sent other,
    )

pub body-verdict : (from : End) (body : List ℕ) → IsBytes body
    → IsVerdictOn from body (body_verdict from body)
unfolding body_verdict
body-verdict from body small = code_right from body (code_at from body) small refl
