-- What contracts see of a source, and what one read does to it.
use Rattle.std.specs.Prelude.{◌≡◌, ℕ, ◌<◌, ◌≤◌, Bool, true, List, take, Option}
use Rattle.std.specs.Option.{option_map}
use Rattle.share_base.specs.declared.source.SourceAnswer.{SourceAnswer}
use Rattle.share_base.specs.declared.source.SourceAnswer.TheVariants.{Got, End, Failed}
use Rattle.share_base.specs.Counts.{Rises}
use Rattle.share_base.specs.Told.{before, NoneLeft}

-- the bytes that no read has given yet, and whether a read has answered the end; what these two
-- were before the latest read; and how often the source has failed. The first four are known or
-- not, each by itself
pub record SourceState : Type 0 where
  pub left : Option (List ℕ)
  pub ended : Option Bool
  pub left_before : Option (List ℕ)
  pub ended_before : Option Bool
  pub faults : ℕ

-- the answer suits a buffer of that length
abbrev pub FitsRead : SourceAnswer → ℕ → Type 0
FitsRead (Got n) len = (0 < n) × (n ≤ len)
FitsRead End len = Unit {0}
FitsRead Failed len = Unit {0}

-- the bytes that came stood in front of those that are left; the end comes only where none is left
abbrev pub ReadGives : SourceAnswer → List ℕ → Option (List ℕ) → Option (List ℕ) → Type 0
ReadGives (Got n) buf old new = old ≡ before (take n buf) new
ReadGives End buf old new = NoneLeft old × (new ≡ old)
ReadGives Failed buf old new = new ≡ old

-- an answer of the end, and no other, sets the flag that says so
abbrev pub ReadEnds : SourceAnswer → Option Bool → Option Bool → Type 0
ReadEnds (Got n) old new = new ≡ old
ReadEnds End old new = new ≡ option_map (λ flag. true) old
ReadEnds Failed old new = new ≡ old

-- the count of faults rose at a failure, and stayed at every other answer; it stands still at its
-- last value
abbrev pub ReadCounts : SourceAnswer → ℕ → ℕ → Type 0
ReadCounts (Got n) old new = new ≡ old
ReadCounts End old new = new ≡ old
ReadCounts Failed old new = Rises old new

-- one read gave that answer, with those bytes in its buffer
pub record Reads (answer : SourceAnswer) (buf : List ℕ) (old new : SourceState) : Type 0 where
  pub gives : ReadGives answer buf old.left new.left
  pub ends : ReadEnds answer old.ended new.ended
  pub left_before : new.left_before ≡ old.left
  pub ended_before : new.ended_before ≡ old.ended
  pub counts : ReadCounts answer old.faults new.faults
