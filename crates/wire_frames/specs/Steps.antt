-- The answer of `next`, and what is left after it.
use Rattle.std.specs.Prelude.{◌≡◌, ℕ, ◌+◌, ◌≤◌, false, List, ◌++◌, length, drop}
use Rattle.std.specs.Borrow.{Fml, MutBor}
use Rattle.std.specs.Io.BufRead.{Rests}
use Rattle.wire_frames.specs.declared.framer.Framer.{Framer}
use Rattle.wire_frames.specs.declared.framer.FrameStep.{FrameStep}
use Rattle.wire_frames.specs.declared.framer.FrameStep.TheVariants.{Frame, More, TooLong}
use Rattle.wire_frames.specs.contracts.framer.Framer.{the_row}
use Rattle.wire_frames.specs.Framing.{frame, length_field, IsPartial, IsTooLong}
use Rattle.wire_frames.specs.Framers.{FramerParts, moved, refused}
use Rattle.wire_frames.specs.Calls.{Call, Gave, Waited, Refused}

-- the frame of a body within the limit stands at the front
pub record IsFirst (limit : ℕ) (body bytes : List ℕ) : Type 0 where
  pub front : bytes ≡ frame body ++ drop (4 + length body) bytes
  pub within : length body ≤ limit

-- which of the three stands at the front of the rest: a frame, less than one, or a length above the
-- limit
abbrev pub Answers : FramerParts → FrameStep → Type 0
Answers f (Frame place body) =
    (place ≡ f.given) × (f.over ≡ false) × IsFirst f.limit body.now f.rest
Answers f More = (f.over ≡ false) × IsPartial f.limit f.rest
Answers f (TooLong place len) =
    (place ≡ f.given) × IsTooLong f.limit f.rest × (len ≡ length_field f.rest)

-- the parts after the answer
abbrev pub after_next : FramerParts → FrameStep → FramerParts
after_next f (Frame place body) = moved f (4 + length body.now) (drop (4 + length body.now) f.rest)
after_next f More = f
after_next f (TooLong place len) = refused f

-- those are the parts once the borrow of the body ends
abbrev pub RestsAfter : MutBor Framer → FrameStep → Fml
RestsAfter f answer = Rests the_row f (λ new. new ≡ after_next f.now answer)

-- the answer as a call that was made
abbrev pub told : FrameStep → Call
told (Frame place body) = Gave place body.now
told More = Waited
told (TooLong place len) = Refused place len
