-- How much a framer holds.
use Rattle.std.specs.Prelude.{◌≡◌, ℕ, ◌+◌, ◌≤◌, Bool, true, false, List, [], ◌∷◌, length}
use Rattle.std.specs.Prelude.{if◌then◌else◌}
use Rattle.wire_frames.specs.Calls.{Call, Fed, Waited, Refused, is_refused, limit_after}

-- after the latest piece `next` answered that there was less than a frame, or that a length was too
-- long
abbrev pub is_settled : List Call → Bool
is_settled [] = true
is_settled (Fed piece ∷ calls) = false
is_settled (Waited ∷ calls) = true
is_settled (Refused place len ∷ calls) = true
is_settled (call ∷ calls) = is_settled calls

-- it did so between each piece and the following one
abbrev pub IsPaced : List Call → Type 0
IsPaced [] = Unit {0}
IsPaced (Fed piece ∷ calls) = (is_settled calls ≡ true) × IsPaced calls
IsPaced (call ∷ calls) = IsPaced calls

-- the latest piece that was appended
abbrev pub last_piece : List Call → List ℕ
last_piece [] = []
last_piece (Fed piece ∷ calls) = if is_refused calls then last_piece calls else piece
last_piece (call ∷ calls) = last_piece calls

-- the buffer holds at most the limit, 3 bytes and the latest piece
abbrev pub HoldsLittle : ℕ → List Call → ℕ → Type 0
HoldsLittle first calls held = held ≤ limit_after first calls + 3 + length (last_piece calls)
