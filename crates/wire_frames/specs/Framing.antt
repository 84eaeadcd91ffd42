-- Frames on a stream: a length of four bytes, big-endian, and then so many bytes of body.
use Rattle.std.specs.Prelude.{◌≡◌, ℕ, ◌+◌, ◌<◌, ◌≤◌, ◌⊎◌, List, ◌++◌, length, take}
use Rattle.std.specs.List.{flat_map, AllByRecursion}
use Rattle.std.specs.Int.{w32, to_be_bytes, from_be_bytes}

-- the frame of a body
abbrev pub frame : List ℕ → List ℕ
frame body = to_be_bytes w32 (length body) ++ body

-- the frames of bodies, one after another
abbrev pub frames : List (List ℕ) → List ℕ
frames bodies = flat_map frame bodies

-- what the first four bytes name
abbrev pub length_field : List ℕ → ℕ
length_field bytes = from_be_bytes w32 (take 4 bytes)

-- less than a frame within the limit: fewer bytes than a length, or a length within the limit and
-- fewer bytes than it names
abbrev pub IsPartial : ℕ → List ℕ → Type 0
IsPartial limit bytes =
    (length bytes < 4) ⊎ ((length_field bytes ≤ limit) × (length bytes < 4 + length_field bytes))

-- a length above the limit stands at the front
pub record IsTooLong (limit : ℕ) (bytes : List ℕ) : Type 0 where
  pub whole : 4 ≤ length bytes
  pub above : limit < length_field bytes

-- the stream is the frames of these bodies, each within the limit, and then less than a whole one
pub record Framed (limit : ℕ) (bodies : List (List ℕ)) (rest stream : List ℕ) : Type 0 where
  pub stream_is : stream ≡ frames bodies ++ rest
  pub within : AllByRecursion (λ body. length body ≤ limit) bodies
  pub partial : IsPartial limit rest
