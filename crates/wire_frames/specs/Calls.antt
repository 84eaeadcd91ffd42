-- The calls of a framer, the latest first: what they fed and gave, and when their answers were
-- right.
use Rattle.std.specs.Prelude.{◌≡◌, ℕ, ◌≤◌, Bool, true, false, List, [], ◌∷◌, ◌++◌, length, drop}
use Rattle.std.specs.Prelude.{if◌then◌else◌}
use Rattle.wire_frames.specs.Framing.{frame, frames, length_field, IsTooLong, Framed}
use Rattle.wire_frames.specs.Framers.{FramerParts}

-- a piece was fed; a frame was given, with its place and its body; there was less than a frame; a
-- length was too long, with its place and what it names; the limit was raised
pub data Call : Type 0 where
  Fed : List ℕ → Call
  Gave : ℕ → List ℕ → Call
  Waited : Call
  Refused : ℕ → ℕ → Call
  Raised : ℕ → Call

-- ---- what they fed and gave

-- whether a length was too long
abbrev pub is_refused : List Call → Bool
is_refused [] = false
is_refused (Refused place len ∷ calls) = true
is_refused (call ∷ calls) = is_refused calls

-- the stream: the pieces one after another, without those fed after a length was too long
abbrev pub stream_fed : List Call → List ℕ
stream_fed [] = []
stream_fed (Fed piece ∷ calls) =
    if is_refused calls then stream_fed calls else stream_fed calls ++ piece
stream_fed (call ∷ calls) = stream_fed calls

-- all pieces, one after another
abbrev pub pieces_fed : List Call → List ℕ
pieces_fed [] = []
pieces_fed (Fed piece ∷ calls) = pieces_fed calls ++ piece
pieces_fed (call ∷ calls) = pieces_fed calls

-- the bodies of the frames given, in the stream's order
abbrev pub bodies_given : List Call → List (List ℕ)
bodies_given [] = []
bodies_given (Gave place body ∷ calls) = bodies_given calls ++ body ∷ []
bodies_given (call ∷ calls) = bodies_given calls

-- where the next frame begins
abbrev pub next_place : List Call → ℕ
next_place calls = length (frames (bodies_given calls))

-- the limit in force, which the first one was before any call
abbrev pub limit_after : ℕ → List Call → ℕ
limit_after first [] = first
limit_after first (Raised limit ∷ calls) = limit
limit_after first (call ∷ calls) = limit_after first calls

-- the stream is the frames given, and then this
abbrev pub IsLeft : List Call → List ℕ → Type 0
IsLeft calls rest = stream_fed calls ≡ frames (bodies_given calls) ++ rest

-- what the buffer holds: what was left when the latest piece came, and that piece
abbrev pub held_after : List Call → ℕ
held_after [] = 0
held_after (Fed piece ∷ calls) =
    if is_refused calls then held_after calls
    else length (drop (next_place calls) (stream_fed calls) ++ piece)
held_after (call ∷ calls) = held_after calls

-- ---- when they were right

-- after those calls, this one was right at the limit then in force
abbrev pub IsRight : ℕ → List Call → Call → Type 0
IsRight first calls (Fed piece) = Unit {0}
IsRight first calls (Gave place body) =
    (place ≡ next_place calls) × (is_refused calls ≡ false)
    × (length body ≤ limit_after first calls)
    × ((more : List ℕ) × IsLeft calls (frame body ++ more))
IsRight first calls Waited =
    (is_refused calls ≡ false)
    × ((rest : List ℕ)
    × Framed (limit_after first calls) (bodies_given calls) rest (stream_fed calls))
IsRight first calls (Refused place len) =
    (place ≡ next_place calls)
    × ((rest : List ℕ) × IsLeft calls rest × IsTooLong (limit_after first calls) rest
    × (len ≡ length_field rest))
IsRight first calls (Raised limit) = (is_refused calls ≡ false) × (limit_after first calls ≤ limit)

-- each was right at its place
abbrev pub AreRight : ℕ → List Call → Type 0
AreRight first [] = Unit {0}
AreRight first (call ∷ calls) = IsRight first calls call × AreRight first calls

-- a framer's parts are the result of these calls
pub record StandsFor (first : ℕ) (parts : FramerParts) (calls : List Call) : Type 0 where
  pub right : AreRight first calls
  pub given : parts.given ≡ next_place calls
  pub left : IsLeft calls parts.rest
  pub limit : parts.limit ≡ limit_after first calls
  pub over : parts.over ≡ is_refused calls
  pub held : parts.held ≡ held_after calls

-- from every list of calls that the old parts are the result of, this call leads to the new ones
abbrev pub Extends : FramerParts → FramerParts → Call → Type 0
Extends old new call =
    (first : ℕ) (calls : List Call) → StandsFor first old calls → StandsFor first new (call ∷ calls)
