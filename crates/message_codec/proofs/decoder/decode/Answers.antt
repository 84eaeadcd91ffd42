use Rattle.std.proofs.Common.{◌≡◌, ◌<◌, ◌-◌, ◌∙◌, List, ℕ, [], Ok, Err, length, refl, sym, ap}
use Rattle.std.proofs.Common.{subst, Some, drop, arith, rules}
use Rattle.std.proofs.lemmas.List.{nil_from_length}
use Rattle.message_codec.specs.Fields.{Field}
use Rattle.message_codec.specs.declared.reading.ReadError.{ReadError}
use Rattle.message_codec.specs.Reading.{Fails, read_fields}
use Rattle.message_codec.specs.Table.{SentBy, text, kinds, fields, has_list}
use Rattle.message_codec.specs.Drafts.{draft_code, draft_fields}
use Rattle.message_codec.specs.Codes.{code_at}
use Rattle.message_codec.proofs.ReadFaults.{Reads}
use Rattle.message_codec.proofs.CodeTexts.{code_at-begins, text_fits, no_code, no_sent}
use Rattle.message_codec.specs.declared.messages.End.{End}
use Rattle.message_codec.specs.declared.coding.Code.{Code}
use Rattle.message_codec.specs.declared.reading.ReadError.TheVariants.{Short}
use Rattle.message_codec.proofs.Bodies.{reads_at, read_spells}
use Rattle.message_codec.specs.declared.faults.BadBody.TheVariants as bad
use Rattle.message_codec.proofs.FaultForms.{left_within, rest_within, from_faults}
use Rattle.message_codec.proofs.RefusalLaws.{never, misfit_faults}
use Rattle.message_codec.proofs.decoder.decode.Goals as goal

pub returns-in_default-clause-bad : goal.returns-in_default-clause-bad
returns-in_default-clause-bad c code rest begins =
    no_code c.args.from c.args.body.now code rest (search rules) begins

pub returns-then-not-is_sent_by-clause-bad : goal.returns-then-not-is_sent_by-clause-bad
returns-then-not-is_sent_by-clause-bad c =
    let found = c.in-Some.code in
    let not_sent : SentBy found c.args.from → ⊥ = λ s. never (c.if-not-is_sent_by.ensures.1 s) in (
      (found, _, code_at-begins c.args.from c.args.body.now found (sym c.in-Some.ensures)),
      λ code rest sent begins.
          no_sent c.args.from c.args.body.now found code rest (sym c.in-Some.ensures) not_sent sent
          begins,
    )

-- a reading that failed where the bytes after the code end too early
fails_short : (from : End) (body : List ℕ) (c : Code) (shown after : List ℕ) (error : ReadError)
    (left : ℕ)
    → code_at from body ≡ Some c → SentBy c from → shown ≡ text c → after ≡ drop (length shown) body
    → Fails (has_list c) error (read_fields (kinds c) after) → error ≡ Short left
    → Reads from body (Err left)
fails_short from body c shown after error left found sent shown-is after-is failed is =
    reads_at from body c shown after (Err left) found sent shown-is after-is
    (subst (λ (e : ReadError). Fails (has_list c) e (read_fields (kinds c) after)) is failed)

pub split_at-requires : goal.split_at-requires
split_at-requires c =
    omega (
      arith,
      ap length c.text.ensures,
      text_fits c.args.from c.args.body.now c.in-Some.code (sym c.in-Some.ensures),
    )

pub overflow_sub-at : goal.overflow_sub-at
overflow_sub-at c =
    let left = c.in-Err-Short.left in
    left_within c.args.from c.args.body.now left (λ i. omega (arith, c.type_inv.body i))
    (fails_short _ _ c.in-Some.code _ _ _ left (sym c.in-Some.ensures) (search rules)
    c.text.ensures c.split_at.ensures.back c.in-Err-Short.ensures c.in-Err-Short.field-0-is)

pub returns-in-Err-Short-clause-bad : goal.returns-in-Err-Short-clause-bad
returns-in-Err-Short-clause-bad c =
    let body = c.args.body.now in
    let left = c.in-Err-Short.left in
    let reads =
    fails_short _ _ c.in-Some.code _ _ _ left (sym c.in-Some.ensures) (search rules)
    c.text.ensures c.split_at.ensures.back c.in-Err-Short.ensures c.in-Err-Short.field-0-is in
    from_faults (bad.Short (length body - left)) c.args.from body
    (λ i. omega (arith, c.type_inv.body i)) (left, reads, refl)

pub overflow_sub-at-then-not-is_empty : goal.overflow_sub-at-then-not-is_empty
overflow_sub-at-then-not-is_empty c =
    let d = c.in-Ok.found in
    let sent : SentBy c.in-Some.code c.args.from = search rules in
    let reads =
    reads_at c.args.from c.args.body.now c.in-Some.code c.text.result.now
    c.split_at.result.1.now (Ok (draft_fields d.0, d.1.now)) (sym c.in-Some.ensures) sent
    c.text.ensures c.split_at.ensures.back c.in-Ok.ensures.1 in
    rest_within c.args.from c.args.body.now (draft_fields d.0) d.1.now
    (λ i. omega (arith, c.type_inv.body i)) reads

pub returns-then-not-is_empty-clause-bad : goal.returns-then-not-is_empty-clause-bad
returns-then-not-is_empty-clause-bad c =
    let body = c.args.body.now in
    let d = c.in-Ok.found in
    let sent : SentBy c.in-Some.code c.args.from = search rules in
    let some : 0 < length d.1.now = search rules in
    let reads =
    reads_at c.args.from body c.in-Some.code c.text.result.now c.split_at.result.1.now
    (Ok (draft_fields d.0, d.1.now)) (sym c.in-Some.ensures) sent c.text.ensures
    c.split_at.ensures.back c.in-Ok.ensures.1 in
    from_faults (bad.Trailing (length body - length d.1.now)) c.args.from body
    (λ i. omega (arith, c.type_inv.body i)) (draft_fields d.0, d.1.now, reads, some, refl)

pub returns-in-Ok-finish-clause-found : goal.returns-in-Ok-finish-clause-found
returns-in-Ok-finish-clause-found c =
    let d = c.in-Ok.found in
    let m = c.in-Ok-finish in
    let sent : SentBy c.in-Some.code c.args.from = search rules in
    let ends : length d.1.now ≡ 0 = search rules in
    let r =
    reads_at c.args.from c.args.body.now c.in-Some.code c.text.result.now
    c.split_at.result.1.now _ (sym c.in-Some.ensures) sent c.text.ensures
    c.split_at.ensures.back
    (c.in-Ok.ensures.1 ∙ ap (λ (fs : List Field). Ok (fs, d.1.now)) (sym m.ensures.ok.1)
    ∙ ap (λ (t : List ℕ). Ok (fields m.msg, t)) (nil_from_length d.1.now ends))
    in
    read_spells c.args.from m.msg c.args.body.now r (λ i. omega (arith, c.type_inv.body i))
    (m.ensures.ok.0 ∙ c.in-Ok.ensures.0)

pub returns-in-Err-clause-bad : goal.returns-in-Err-clause-bad
returns-in-Err-clause-bad c =
    let d = c.in-Ok.found in
    let sent : SentBy c.in-Some.code c.args.from = search rules in
    let ends : length d.1.now ≡ 0 = search rules in
    let r =
    reads_at c.args.from c.args.body.now c.in-Some.code c.text.result.now
    c.split_at.result.1.now (Ok (draft_fields d.0, [])) (sym c.in-Some.ensures) sent
    c.text.ensures c.split_at.ensures.back
    (c.in-Ok.ensures.1
    ∙ ap (λ (t : List ℕ). Ok (draft_fields d.0, t)) (nil_from_length d.1.now ends))
    in
    from_faults c.in-Err.bad c.args.from c.args.body.now (λ i. omega (arith, c.type_inv.body i))
    (misfit_faults c.in-Err.bad c.args.from c.args.body.now (draft_code d.0) (draft_fields d.0) r
    c.in-Ok.ensures.0 c.in-Err.ensures.err)

pub returns-in-Err-Memory-clause-bad : goal.returns-in-Err-Memory-clause-bad
returns-in-Err-Memory-clause-bad c =
    let found = c.in-Some.code in record {
      code = found;
      rest = _;
      sent = search rules;
      begins = code_at-begins c.args.from c.args.body.now found (sym c.in-Some.ensures);
      list =
          subst
          (λ (e : ReadError).
          Fails (has_list found) e (read_fields (kinds found) c.split_at.result.1.now))
          c.in-Err-Memory.field-0-is c.in-Err-Memory.ensures;
    }
