-- Laws of clipboards in parts.
use Rattle.std.specs.Prelude.{◌≡◌, ℕ, List, [], ◌∷◌, ◌++◌, Some, false, reverse}
use Rattle.share_base.specs.declared.clip_id.ClipId.{ClipId}
use Rattle.message_codec.specs.declared.messages.Msg.{Msg}
use Rattle.clip_chunks.specs.Parts.{Part, part_of, parts_among, same_clip}
use Rattle.clip_chunks.specs.Wholes.{EndsWhole}
use Rattle.clip_chunks.specs.OpenRuns.{whole_at, wholes_among, brought}
use Rattle.clip_chunks.specs.Assemblies.{AssemblyParts, StandsFor}
use Rattle.clip_chunks.specs.Sending.{IsCut}
use Rattle.clip_chunks.specs.Calls.{Call}
use Rattle.clip_chunks.specs.Origins.{KnownWereBrought}

-- what is found is a whole
abbrev pub FoundIsWhole : Type 0
FoundIsWhole =
    (limit : ℕ) (bytes : List ℕ) (newest : Part) (older : List Part)
    → whole_at limit newest older ≡ Some bytes → EndsWhole limit bytes newest older

-- a whole is found
abbrev pub WholeIsFound : Type 0
WholeIsFound =
    (limit : ℕ) (bytes : List ℕ) (newest : Part) (older : List Part)
    → EndsWhole limit bytes newest older → whole_at limit newest older ≡ Some bytes

-- one more message brings the whole that its part ends
abbrev pub WholesGrow : Type 0
WholesGrow =
    (limit : ℕ) (messages : List Msg) (m : Msg)
    → wholes_among limit (messages ++ m ∷ [])
    ≡ wholes_among limit messages
    ++ brought limit (part_of m) (reverse (parts_among messages))

-- a part of the other clipboard is nothing to an assembly
abbrev pub OtherPartsPass : Type 0
OtherPartsPass =
    (limit : ℕ) (clip : ClipId) (a : AssemblyParts) (p : Part) (parts : List Part)
    → same_clip clip p.clip ≡ false → StandsFor limit clip a parts
    → StandsFor limit clip a (p ∷ parts)

-- all bytes are cut once
abbrev pub AllIsCut : Type 0
AllIsCut = (bytes : List ℕ) → IsCut bytes

-- after any calls, what is known was brought
abbrev pub AllKnownWasBrought : Type 0
AllKnownWasBrought =
    (primary limit : ℕ) (clip : ClipId) (calls : List Call)
    → KnownWereBrought primary limit clip calls
