-- A body that is refused spells no message, and is refused for one fault.
use Rattle.std.proofs.Common.{◌≡◌, ℕ, ◌-◌, ◌<◌, Bool, false, List, [], length, Some, None, Ok, Err}
use Rattle.std.proofs.Common.{refl, sym, ap, subst, ◌∙◌, arith}
use Rattle.std.specs.Prelude.{IsTrue, position, Result, IfOk, IfErr}
use Rattle.message_codec.specs.declared.messages.End.{End}
use Rattle.message_codec.specs.declared.messages.Msg.{Msg}
use Rattle.message_codec.specs.declared.coding.Code.{Code}
use Rattle.message_codec.specs.declared.faults.BadBody.{BadBody}
use Rattle.message_codec.specs.declared.faults.BadBody.TheVariants as bad
use Rattle.message_codec.specs.declared.faults.DecodeFault.{DecodeFault}
use Rattle.message_codec.specs.declared.faults.DecodeFault.TheVariants as fault
use Rattle.message_codec.specs.Fields.{Field, spelled_all}
use Rattle.message_codec.specs.Reading.{Read}
use Rattle.message_codec.specs.Table.{code_of, fields, has_list}
use Rattle.message_codec.specs.Spelling.{Spells}
use Rattle.message_codec.specs.Refusals.{is_bad_clip, is_bad_mark, place_of, Misfits, Refuses}
use Rattle.message_codec.specs.Refusals.{RefusedFor}
use Rattle.message_codec.specs.Decoding.{IsDecoded}
use Rattle.message_codec.proofs.Readers.{ok_is}
use Rattle.message_codec.proofs.CodeTexts.{some_is, one_code}
use Rattle.message_codec.proofs.Bodies.{one_reading, one_reading_code, spelled_reads, one_message}
use Rattle.message_codec.proofs.ReadFaults.{Reads, Faults}
use Rattle.message_codec.proofs.FaultForms.{to_faults}
use Rattle.message_codec.proofs.Misfits.{clips_are_good, marks_are_good}

pub never : IsTrue false → ⊥
never h = cc

-- fields that were read whole, of which one is out of range
pub misfit_faults : (why : BadBody) (from : End) (body : List ℕ) (c : Code) (fs : List Field)
    (r : Reads from body (Ok (fs, [])))
    → c ≡ r.code → Misfits why c fs → Faults why from body
misfit_faults bad.UnknownCode from body c fs r same h = absurd h
misfit_faults bad.WrongEnd from body c fs r same h = absurd h
misfit_faults (bad.Short at) from body c fs r same h = absurd h
misfit_faults (bad.Trailing at) from body c fs r same h = absurd h
misfit_faults (bad.BadClip at) from body c fs r same h =
    (fs, r, subst (λ (d : Code). Misfits (bad.BadClip at) d fs) same h)
misfit_faults (bad.BadMark at) from body c fs r same h =
    (fs, r, subst (λ (d : Code). Misfits (bad.BadMark at) d fs) same h)

-- ---- what was read

same_fields : (from : End) (body : List ℕ) (fs gs : List Field) (a b : List ℕ)
    → Reads from body (Ok (fs, a)) → Reads from body (Ok (gs, b)) → (fs ≡ gs) × (a ≡ b)
same_fields from body fs gs a b r s =
    let same : (fs, a) ≡ (gs, b) =
    ok_is (fs, a) (gs, b) (one_reading from body (Ok (fs, a)) (Ok (gs, b)) r s) in
    (ap (λ (p : List Field × List ℕ). p.0) same, ap (λ (p : List Field × List ℕ). p.1) same)

not_both : (from : End) (body : List ℕ) (left : ℕ) (x : List Field × List ℕ)
    → Reads from body (Err left) → Reads from body (Ok x) → ⊥
not_both from body left x r s = let same = one_reading from body (Err left) (Ok x) r s in cc

same_left : (from : End) (body : List ℕ) (a b : ℕ) → Reads from body (Err a)
    → Reads from body (Err b) → a ≡ b
same_left from body a b r s = let same = one_reading from body (Err a) (Err b) r s in cc

nothing_over : (from : End) (body : List ℕ) (fs gs : List Field) (rest : List ℕ)
    → Reads from body (Ok (fs, rest)) → 0 < length rest → Reads from body (Ok (gs, [])) → ⊥
nothing_over from body fs gs rest r some s =
    let same = (same_fields from body fs gs rest [] r s).1 in omega (arith, ap length same)

good_clips : (fs : List Field) (i : ℕ) (m : Msg) → fs ≡ fields m → position is_bad_clip fs ≡ Some i
    → ⊥
good_clips fs i m same found =
    let both = sym found ∙ ap (position is_bad_clip) same ∙ clips_are_good m in cc

good_marks : (fs : List Field) (i : ℕ) (m : Msg) → fs ≡ fields m → position is_bad_mark fs ≡ Some i
    → ⊥
good_marks fs i m same found =
    let both = sym found ∙ ap (position is_bad_mark) same ∙ marks_are_good m in cc

-- a body with a fault spells no message
faulty_spells_none : (from : End) (why : BadBody) (m : Msg) (body : List ℕ) → Faults why from body
    → Spells from m body → ⊥
faulty_spells_none from bad.UnknownCode m body h s =
    h (code_of m) (spelled_all (fields m)) s.body_is
faulty_spells_none from bad.WrongEnd m body h s =
    h.1 (code_of m) (spelled_all (fields m)) s.sent s.body_is
faulty_spells_none from (bad.Short at) m body h s =
    not_both from body h.0 (fields m, []) h.1 (spelled_reads from m body s)
faulty_spells_none from (bad.Trailing at) m body h s =
    nothing_over from body h.0 (fields m) h.1 h.2 h.3 (spelled_reads from m body s)
faulty_spells_none from (bad.BadClip at) m body h s =
    good_clips h.0 h.2.0 m
    (same_fields from body h.0 (fields m) [] [] h.1 (spelled_reads from m body s)).0 h.2.1
faulty_spells_none from (bad.BadMark at) m body h s =
    good_marks h.0 h.2.1.0 m
    (same_fields from body h.0 (fields m) [] [] h.1 (spelled_reads from m body s)).0 h.2.1.1

-- ---- one fault

begun : (from : End) (body : List ℕ) (x : Read (List Field)) → Faults bad.UnknownCode from body
    → Reads from body x → ⊥
begun from body x h r = h r.code r.after r.begins

sent : (from : End) (body : List ℕ) (x : Read (List Field)) → Faults bad.WrongEnd from body
    → Reads from body x → ⊥
sent from body x h r = h.1 r.code r.after r.sent r.begins

same_place : (c d : Code) (fs gs : List Field) (p : Field → Bool) (i j : ℕ) → c ≡ d → fs ≡ gs
    → position p fs ≡ Some i → position p gs ≡ Some j → place_of c fs i ≡ place_of d gs j
same_place c d fs gs p i j codes same at_i at_j =
    let index : i ≡ j = some_is i j (sym at_i ∙ ap (position p) same ∙ at_j) in
    ap (λ (e : Code). place_of e fs i) codes ∙ ap (λ (hs : List Field). place_of d hs i) same
    ∙ ap (place_of d gs) index

not_first : (fs gs : List Field) (i : ℕ) → fs ≡ gs → position is_bad_clip fs ≡ Some i
    → position is_bad_clip gs ≡ None → ⊥
not_first fs gs i same some none = let both = sym some ∙ ap (position is_bad_clip) same ∙ none in cc

-- what is refused for a fault is refused for no other
is_unknown : (from : End) (why : BadBody) (body : List ℕ) → Faults bad.UnknownCode from body
    → Faults why from body → bad.UnknownCode ≡ why
is_unknown from bad.UnknownCode body h k = refl
is_unknown from bad.WrongEnd body h k = absurd (h k.0.0 k.0.1 k.0.2)
is_unknown from (bad.Short at) body h k = absurd (begun from body _ h k.1)
is_unknown from (bad.Trailing at) body h k = absurd (begun from body _ h k.2)
is_unknown from (bad.BadClip at) body h k = absurd (begun from body _ h k.1)
is_unknown from (bad.BadMark at) body h k = absurd (begun from body _ h k.1)

is_wrong_end : (from : End) (why : BadBody) (body : List ℕ) → Faults bad.WrongEnd from body
    → Faults why from body → bad.WrongEnd ≡ why
is_wrong_end from bad.UnknownCode body h k = sym (is_unknown from bad.WrongEnd body k h)
is_wrong_end from bad.WrongEnd body h k = refl
is_wrong_end from (bad.Short at) body h k = absurd (sent from body _ h k.1)
is_wrong_end from (bad.Trailing at) body h k = absurd (sent from body _ h k.2)
is_wrong_end from (bad.BadClip at) body h k = absurd (sent from body _ h k.1)
is_wrong_end from (bad.BadMark at) body h k = absurd (sent from body _ h k.1)

is_short : (from : End) (at : ℕ) (why : BadBody) (body : List ℕ) → Faults (bad.Short at) from body
    → Faults why from body → bad.Short at ≡ why
is_short from at bad.UnknownCode body h k = sym (is_unknown from (bad.Short at) body k h)
is_short from at bad.WrongEnd body h k = sym (is_wrong_end from (bad.Short at) body k h)
is_short from at (bad.Short other) body h k =
    ap (λ (n : ℕ). bad.Short n)
    (h.2 ∙ ap (λ (n : ℕ). length body - n) (same_left from body h.0 k.0 h.1 k.1) ∙ sym k.2)
is_short from at (bad.Trailing other) body h k = absurd (not_both from body h.0 (k.0, k.1) h.1 k.2)
is_short from at (bad.BadClip other) body h k = absurd (not_both from body h.0 (k.0, []) h.1 k.1)
is_short from at (bad.BadMark other) body h k = absurd (not_both from body h.0 (k.0, []) h.1 k.1)

is_trailing : (from : End) (at : ℕ) (why : BadBody) (body : List ℕ)
    → Faults (bad.Trailing at) from body → Faults why from body → bad.Trailing at ≡ why
is_trailing from at bad.UnknownCode body h k = sym (is_unknown from (bad.Trailing at) body k h)
is_trailing from at bad.WrongEnd body h k = sym (is_wrong_end from (bad.Trailing at) body k h)
is_trailing from at (bad.Short other) body h k =
    sym (is_short from other (bad.Trailing at) body k h)
is_trailing from at (bad.Trailing other) body h k =
    let rests : h.1 ≡ k.1 = (same_fields from body h.0 k.0 h.1 k.1 h.2 k.2).1 in
    ap (λ (n : ℕ). bad.Trailing n)
    (h.4 ∙ ap (λ (t : List ℕ). length body - length t) rests ∙ sym k.4)
is_trailing from at (bad.BadClip other) body h k =
    absurd (nothing_over from body h.0 k.0 h.1 h.2 h.3 k.1)
is_trailing from at (bad.BadMark other) body h k =
    absurd (nothing_over from body h.0 k.0 h.1 h.2 h.3 k.1)

is_bad_clip_at : (from : End) (at : ℕ) (why : BadBody) (body : List ℕ)
    → Faults (bad.BadClip at) from body → Faults why from body → bad.BadClip at ≡ why
is_bad_clip_at from at bad.UnknownCode body h k = sym (is_unknown from (bad.BadClip at) body k h)
is_bad_clip_at from at bad.WrongEnd body h k = sym (is_wrong_end from (bad.BadClip at) body k h)
is_bad_clip_at from at (bad.Short other) body h k =
    sym (is_short from other (bad.BadClip at) body k h)
is_bad_clip_at from at (bad.Trailing other) body h k =
    sym (is_trailing from other (bad.BadClip at) body k h)
is_bad_clip_at from at (bad.BadClip other) body h k =
    let codes : h.1.code ≡ k.1.code = one_reading_code from body _ _ h.1 k.1 in
    let same : h.0 ≡ k.0 = (same_fields from body h.0 k.0 [] [] h.1 k.1).0 in
    ap (λ (n : ℕ). bad.BadClip n)
    (h.2.2 ∙ same_place h.1.code k.1.code h.0 k.0 is_bad_clip h.2.0 k.2.0 codes same h.2.1 k.2.1
    ∙ sym k.2.2)
is_bad_clip_at from at (bad.BadMark other) body h k =
    absurd (not_first h.0 k.0 h.2.0 (same_fields from body h.0 k.0 [] [] h.1 k.1).0 h.2.1 k.2.0)

is_bad_mark_at : (from : End) (at : ℕ) (why : BadBody) (body : List ℕ)
    → Faults (bad.BadMark at) from body → Faults why from body → bad.BadMark at ≡ why
is_bad_mark_at from at bad.UnknownCode body h k = sym (is_unknown from (bad.BadMark at) body k h)
is_bad_mark_at from at bad.WrongEnd body h k = sym (is_wrong_end from (bad.BadMark at) body k h)
is_bad_mark_at from at (bad.Short other) body h k =
    sym (is_short from other (bad.BadMark at) body k h)
is_bad_mark_at from at (bad.Trailing other) body h k =
    sym (is_trailing from other (bad.BadMark at) body k h)
is_bad_mark_at from at (bad.BadClip other) body h k =
    sym (is_bad_clip_at from other (bad.BadMark at) body k h)
is_bad_mark_at from at (bad.BadMark other) body h k =
    let codes : h.1.code ≡ k.1.code = one_reading_code from body _ _ h.1 k.1 in
    let same : h.0 ≡ k.0 = (same_fields from body h.0 k.0 [] [] h.1 k.1).0 in
    ap (λ (n : ℕ). bad.BadMark n)
    (h.2.1.2
    ∙ same_place h.1.code k.1.code h.0 k.0 is_bad_mark h.2.1.0 k.2.1.0 codes same h.2.1.1
    k.2.1.1
    ∙ sym k.2.1.2)

one_fault : (from : End) (a b : BadBody) (body : List ℕ) → Faults a from body → Faults b from body
    → a ≡ b
one_fault from bad.UnknownCode b body h k = is_unknown from b body h k
one_fault from bad.WrongEnd b body h k = is_wrong_end from b body h k
one_fault from (bad.Short at) b body h k = is_short from at b body h k
one_fault from (bad.Trailing at) b body h k = is_trailing from at b body h k
one_fault from (bad.BadClip at) b body h k = is_bad_clip_at from at b body h k
one_fault from (bad.BadMark at) b body h k = is_bad_mark_at from at b body h k

-- ---- refusals

-- a body that is refused spells no message
pub refused_spells_none : (from : End) (why : BadBody) (m : Msg) (body : List ℕ)
    → Refuses why from body → Spells from m body → ⊥
refused_spells_none from why m body h s =
    faulty_spells_none from why m body (to_faults why from body h) s

pub one_refusal : (from : End) (a b : BadBody) (body : List ℕ) → Refuses a from body
    → Refuses b from body → a ≡ b
one_refusal from a b body h k =
    one_fault from a b body (to_faults a from body h) (to_faults b from body k)

-- what spells a message is decoded as it
pub spelled_is_decoded : (from : End) (m : Msg) (body : List ℕ) (answer : Result Msg DecodeFault)
    → Spells from m body → IfOk answer (λ n. Spells from n body)
    → IfErr answer (λ why. RefusedFor why from body) → IsDecoded m answer
spelled_is_decoded from m body (Ok n) spells found refused = one_message from n m body found spells
spelled_is_decoded from m body (Err (fault.Bad why)) spells found refused =
    refused_spells_none from why m body refused spells
spelled_is_decoded from m body (Err fault.OutOfMemory) spells found refused =
    let same : refused.code ≡ code_of m =
    one_code from refused.code (code_of m) refused.rest (spelled_all (fields m)) refused.sent
    spells.sent (sym refused.begins ∙ spells.body_is) in
    sym (ap has_list same) ∙ refused.list
