-- What a framer answers of the front of its rest.
use Rattle.std.proofs.Common.{◌≡◌, ℕ, ◌+◌, ◌<◌, ◌≤◌, List, ◌++◌, length, drop, sym, ap, ◌∙◌, arith}
use Rattle.std.specs.Int.{w32, to_be_bytes}
use Rattle.std.proofs.lemmas.List.{length-append}
use Rattle.wire_frames.specs.declared.framer.FrameStep.{FrameStep}
use Rattle.wire_frames.specs.declared.framer.FrameStep.TheVariants.{Frame, More, TooLong}
use Rattle.wire_frames.specs.Framing.{frame}
use Rattle.wire_frames.specs.Framers.{FramerParts, moved}
use Rattle.wire_frames.specs.Steps.{IsFirst, Answers, after_next}
use Rattle.wire_frames.proofs.OneFrame.{one_frame, frame_is_whole, frame_fits}

pub length-frame : (body : List ℕ) → length (frame body) ≡ 4 + length body
length-frame body = length-append (to_be_bytes w32 (length body)) body

-- where a frame stands at the front, every answer leaves the same
pub same_answer : (f : FramerParts) (answer : FrameStep) (body : List ℕ) → f.limit ≤ 4194304
    → IsFirst f.limit body f.rest → Answers f answer
    → after_next f answer ≡ moved f (4 + length body) (drop (4 + length body) f.rest)
same_answer f (Frame place other) body small first h =
    let same =
    one_frame other.now body (drop (4 + length other.now) f.rest)
    (drop (4 + length body) f.rest) (omega (arith, h.2.within))
    (omega (arith, first.within)) (sym h.2.front ∙ first.front) in
    ap (λ (b : List ℕ). moved f (4 + length b) (drop (4 + length b) f.rest)) same.0
same_answer f More body small first h =
    absurd
    (frame_is_whole f.limit body (drop (4 + length body) f.rest) f.rest
    (omega (arith, first.within)) first.front h.1)
same_answer f (TooLong place len) body small first h =
    absurd
    (frame_fits f.limit body (drop (4 + length body) f.rest) f.rest (omega (arith, first.within))
    first.within first.front h.1)

-- what is left after a frame is shorter
pub is_shorter : (body rest : List ℕ) → rest ≡ frame body ++ drop (4 + length body) rest
    → length (drop (4 + length body) rest) < length rest
is_shorter body rest front =
    omega (
      arith,
      ap length front,
      length-append (frame body) (drop (4 + length body) rest),
      length-frame body,
    )
