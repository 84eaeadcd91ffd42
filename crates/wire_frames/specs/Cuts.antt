-- A stream that comes in pieces, and the answer at which a framer stops.
use Rattle.std.specs.Prelude.{◌≡◌, ℕ, List, ◌∷◌}
use Rattle.wire_frames.specs.Framers.{FramerParts}
use Rattle.wire_frames.specs.Calls.{Call, Waited, Refused, StandsFor}

-- an answer after which there is nothing more until the next piece
abbrev pub IsStop : Call → Type 0
IsStop Waited = Unit {0}
IsStop (Refused place len) = Unit {0}
IsStop call = ⊥

-- a framer's parts, with this limit in force, are the result of these calls and then of that answer
pub record StoppedAt (first limit : ℕ) (parts : FramerParts) (answer : Call) (calls : List Call)
    : Type 0 where
  pub stands : StandsFor first parts (answer ∷ calls)
  pub stop : IsStop answer
  pub limit_is : parts.limit ≡ limit

-- two framers stopped alike: with the same answer, after the same bodies, and with the same rest
-- where they wait for more
pub record StoppedAlike (p q : FramerParts) (x y : Call) (bodies others : List (List ℕ))
    : Type 0 where
  pub answers : x ≡ y
  pub bodies_are : bodies ≡ others
  pub rests : x ≡ Waited → p.rest ≡ q.rest
