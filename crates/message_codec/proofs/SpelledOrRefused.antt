-- A body spells a message, or it is refused.
use Rattle.std.proofs.Common.{◌≡◌, ℕ, ◌-◌, List, [], ◌∷◌, length, drop, Option, Some, None, Ok, Err}
use Rattle.std.proofs.Common.{refl, sym, ap, ◌∙◌, arith, inl, inr}
use Rattle.std.specs.Prelude.{◌⊎◌}
use Rattle.wire_frames.proofs.First.{IsBytes}
use Rattle.message_codec.specs.declared.messages.End.{End}
use Rattle.message_codec.specs.declared.messages.End.TheVariants as ends
use Rattle.message_codec.specs.declared.messages.Msg.{Msg}
use Rattle.message_codec.specs.declared.coding.Code.{Code}
use Rattle.message_codec.specs.declared.faults.BadBody.{BadBody}
use Rattle.message_codec.specs.declared.faults.BadBody.TheVariants as bad
use Rattle.message_codec.specs.Fields.{Field}
use Rattle.message_codec.specs.Reading.{Read, read_fields}
use Rattle.message_codec.specs.Table.{Sender, server, client, both, Sends, row, text, kinds}
use Rattle.message_codec.specs.Table.{code_of, fields}
use Rattle.message_codec.specs.Codes.{code_at}
use Rattle.message_codec.specs.Spelling.{Spells}
use Rattle.message_codec.specs.Refusals.{Refuses}
use Rattle.message_codec.proofs.CodeTexts.{code_at-begins, no_code, no_sent}
use Rattle.message_codec.proofs.ReadFaults.{Reads}
use Rattle.message_codec.proofs.Bodies.{read_spells}
use Rattle.message_codec.proofs.FaultForms.{whole_is, from_faults}
use Rattle.message_codec.proofs.RefusalLaws.{misfit_faults}
use Rattle.message_codec.proofs.RowFields.{row_fields}

abbrev pub Outcome : End → List ℕ → Type 0
Outcome from body = ((m : Msg) × Spells from m body) ⊎ ((why : BadBody) × Refuses why from body)

-- an end sends a code, or it doesn't
sends_or_not : (s : Sender) (from : End) → Sends s from ⊎ (Sends s from → ⊥)
sends_or_not server ends.Server = inl refl
sends_or_not server ends.Client = inr (λ same. cc)
sends_or_not client ends.Server = inr (λ same. cc)
sends_or_not client ends.Client = inl refl
sends_or_not both from = inl tt

-- ---- what was read

pub spells_read : (from : End) (body : List ℕ) (m : Msg) (fs : List Field) → IsBytes body
    → (r : Reads from body (Ok (fs, []))) → code_of m ≡ r.code → fields m ≡ fs → Spells from m body
spells_read from body m fs small r codes same =
    let as_fields : Reads from body (Ok (fields m, [])) =
    record {
      code = r.code;
      sent = r.sent;
      after = r.after;
      begins = r.begins;
      reading = r.reading ∙ ap (λ (gs : List Field). Ok (gs, [])) (sym same);
    }
    in
    read_spells from m body as_fields small codes

all_read : (from : End) (body : List ℕ) (fs : List Field) (rest : List ℕ) → IsBytes body
    → Reads from body (Ok (fs, rest)) → Outcome from body
all_read from body fs (byte ∷ rest) small r =
    let at : ℕ = length body - length (byte ∷ rest) in
    inr (
      bad.Trailing at,
      from_faults (bad.Trailing at) from body small (fs, byte ∷ rest, r, omega arith, refl),
    )
all_read from body fs [] small r =
    elim (row_fields r.code fs (whole_is from body fs [] small r).row) [
      | inl made ↦ inl (made.0, spells_read from body made.0 fs small r made.1 made.2)
      | inr misfit ↦
          inr (
            misfit.0,
            from_faults misfit.0 from body small
                (misfit_faults misfit.0 from body r.code fs r refl misfit.1),
          )
    ]

was_read : (from : End) (body : List ℕ) (read : Read (List Field)) → IsBytes body
    → Reads from body read → Outcome from body
was_read from body (Ok x) small r = all_read from body x.0 x.1 small r
was_read from body (Err left) small r =
    let at : ℕ = length body - left in
    inr (bad.Short at, from_faults (bad.Short at) from body small (left, r, refl))

-- ---- the code that was found

code_found : (from : End) (body : List ℕ) (found : Option Code) → IsBytes body
    → code_at from body ≡ found → Outcome from body
code_found from body None small none =
    inr (bad.UnknownCode, λ c rest begins. no_code from body c rest none begins)
code_found from body (Some c) small found =
    let after : List ℕ = drop (length (text c)) body in
    let begins = code_at-begins from body c found in
    elim (sends_or_not (row c).sender from) [
      | inl sent ↦
          was_read from body (read_fields (kinds c) after) small
          (record { code = c; sent = sent; after = after; begins = begins; reading = refl })
      | inr not_sent ↦
          inr (
            bad.WrongEnd,
            (
              (c, after, begins),
              λ d rest sent other. no_sent from body c d rest found not_sent sent other,
            ),
          )
    ]

pub spelled_or_refused : (from : End) (body : List ℕ) → IsBytes body → Outcome from body
spelled_or_refused from body small = code_found from body (code_at from body) small refl
