-- What adding a link answers, and what it leaves.
use Rattle.std.specs.Prelude.{◌≡◌, ℕ, ◌<◌, List, [], ◌∷◌, ◌++◌, length, Any, Result, Ok, Err}
use Rattle.share_base.specs.declared.numbers.ScreenNo.{ScreenNo}
use Rattle.share_base.specs.declared.shape.Side.{Side}
use Rattle.screen_links.specs.declared.range.Range.{Range}
use Rattle.screen_links.specs.declared.link.Link.{Link}
use Rattle.screen_links.specs.declared.links.LinkFault.{LinkFault}
use Rattle.screen_links.specs.declared.links.LinkFault.TheVariants as fault
use Rattle.screen_links.specs.declared.links.TheConstants.{MOST_LINKS}
use Rattle.screen_links.specs.Ranges.{IsGood, Meet}

abbrev pub link_of : ScreenNo → Side → Range → ScreenNo → Range → Link
link_of from side range to onto =
    record { from = from; side = side; range = range; to = to; onto = onto }

-- a link stands on that side of that screen with a hundredth of that range
pub record Blocks (link : Link) (from : ScreenNo) (side : Side) (range : Range) : Type 0 where
  pub same_screen : link.from ≡ from
  pub same_side : link.side ≡ side
  pub shared : Meet link.range range

abbrev pub Overlaps : List Link → ScreenNo → Side → Range → Type 0
Overlaps links from side range = Any (λ link. Blocks link from side range) links

-- both ranges are good
abbrev pub HasGoodRanges : Link → Type 0
HasGoodRanges link = IsGood link.range × IsGood link.onto

-- a link shares a hundredth of its range
abbrev pub IsBlocked : List Link → Link → Type 0
IsBlocked links link = Overlaps links link.from link.side link.range

abbrev pub IsFree : List Link → Link → Type 0
IsFree links link = IsBlocked links link → ⊥

-- the answer's cause, and the links after it: with the new one at the end, or as they were
abbrev pub Adds : Result (Unit {0}) LinkFault → List Link → Link → List Link → Type 0
Adds (Ok _) old link new =
    HasGoodRanges link × IsFree old link × (length old < MOST_LINKS) × (new ≡ old ++ link ∷ [])
Adds (Err fault.BadRange) old link new = (HasGoodRanges link → ⊥) × (new ≡ old)
Adds (Err fault.Overlap) old link new = HasGoodRanges link × IsBlocked old link × (new ≡ old)
Adds (Err fault.Full) old link new =
    HasGoodRanges link × IsFree old link × (length old ≡ MOST_LINKS) × (new ≡ old)
Adds (Err fault.OutOfMemory) old link new =
    HasGoodRanges link × IsFree old link × (length old < MOST_LINKS) × (new ≡ old)
