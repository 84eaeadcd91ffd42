-- How much a framer holds after its calls.
use Rattle.std.proofs.Common.{◌≡◌, ℕ, ◌+◌, ◌≤◌, Bool, true, false, cond, List, [], ◌∷◌, ◌++◌}
use Rattle.std.proofs.Common.{length, drop, refl, ap, ◌∙◌, arith, inl, inr}
use Rattle.std.proofs.lemmas.List.{length-append, length-drop}
use Rattle.wire_frames.specs.Framing.{frame, frames, IsPartial}
use Rattle.wire_frames.specs.Framers.{FramerParts}
use Rattle.wire_frames.specs.Calls.{Call, Fed, Gave, Waited, Refused, Raised, is_refused}
use Rattle.wire_frames.specs.Calls.{stream_fed, bodies_given, next_place, held_after, limit_after}
use Rattle.wire_frames.specs.Calls.{AreRight, StandsFor}
use Rattle.wire_frames.specs.Holding.{is_settled, IsPaced, last_piece, HoldsLittle}
use Rattle.wire_frames.proofs.Histories.{frames-last}

-- less than a frame is at most the limit and 3 bytes
partial_long : (limit : ℕ) (rest : List ℕ) → IsPartial limit rest → length rest ≤ limit + 3
partial_long limit rest partial =
    elim partial [ inl short ↦ omega arith | inr fewer ↦ omega (arith, fewer.0, fewer.1) ]

-- what is left is little where the calls are settled, and so is what the buffer holds
record Little (first : ℕ) (calls : List Call) : Type 0 where
  settled : is_settled calls ≡ true → is_refused calls ≡ false
      → length (stream_fed calls) ≤ next_place calls + (limit_after first calls + 3)
  held : held_after calls ≤ limit_after first calls + 3 + length (last_piece calls)

-- a piece more
fed_little : (over settled : Bool) (stream piece last : List ℕ) (place limit held : ℕ)
    → settled ≡ true
    → (settled ≡ true → over ≡ false → length stream ≤ place + (limit + 3))
    → held ≤ limit + 3 + length last
    → cond over held (length (drop place stream ++ piece))
    ≤ limit + 3 + length (cond over last piece)
fed_little true settled stream piece last place limit held calm little most = most
fed_little false settled stream piece last place limit held calm little most =
    let left : length stream ≤ place + (limit + 3) = little calm refl in
    omega (arith, length-append (drop place stream) piece, length-drop place stream)

little : (first : ℕ) (calls : List Call) → AreRight first calls → IsPaced calls → Little first calls
little first [] right paced = record { settled = λ calm fine. omega arith; held = omega arith }
little first (Fed piece ∷ calls) right paced =
    let before = little first calls right.1 paced.1 in record {
      settled = λ calm fine. cc;
      held =
          fed_little (is_refused calls) (is_settled calls) (stream_fed calls) piece
          (last_piece calls) (next_place calls) (limit_after first calls) (held_after calls) paced.0
          before.settled before.held;
    }
little first (Gave place body ∷ calls) right paced =
    let before = little first calls right.1 paced in
    let now : next_place (Gave place body ∷ calls) ≡ next_place calls + length (frame body) =
    ap length (frames-last (bodies_given calls) body)
    ∙ length-append (frames (bodies_given calls)) (frame body) in
    record {
      settled = λ calm fine. omega (arith, now, before.settled calm fine);
      held = before.held;
    }
little first (Waited ∷ calls) right paced =
    let before = little first calls right.1 paced in
    let r = right.0.1 in
    let long : length (stream_fed calls) ≡ next_place calls + length r.0 =
    ap length r.1.stream_is ∙ length-append (frames (bodies_given calls)) r.0 in
    let short : length r.0 ≤ limit_after first calls + 3 =
    partial_long (limit_after first calls) r.0 r.1.partial in
    record { settled = λ calm fine. omega (arith, long, short); held = before.held }
little first (Refused place len ∷ calls) right paced =
    let before = little first calls right.1 paced in
    record { settled = λ calm fine. cc; held = before.held }
little first (Raised limit ∷ calls) right paced =
    let before = little first calls right.1 paced in
    record {
      settled = λ calm fine. omega (arith, before.settled calm fine, right.0.1);
      held = omega (arith, before.held, right.0.1);
    }

pub holds_little : (first : ℕ) (parts : FramerParts) (calls : List Call)
    → StandsFor first parts calls → IsPaced calls → HoldsLittle first calls parts.held
holds_little first parts calls stands paced =
    omega (arith, (little first calls stands.right paced).held, stands.held)
