-- What contracts see of a sink, and what writes do to it.
use Rattle.std.specs.Prelude.{◌≡◌, ℕ, ◌<◌, ◌≤◌, Bool, true, false, List, length, take, Option}
use Rattle.share_base.specs.declared.sink.SinkAnswer.{SinkAnswer}
use Rattle.share_base.specs.declared.sink.SinkAnswer.TheVariants.{Took, Failed}
use Rattle.share_base.specs.Counts.{Rises}
use Rattle.share_base.specs.Told.{after}

-- the bytes taken so far, where they are known, and how often the sink has failed
pub record SinkState : Type 0 where
  pub taken : Option (List ℕ)
  pub faults : ℕ

-- the answer suits so many bytes
abbrev pub FitsWrite : SinkAnswer → ℕ → Type 0
FitsWrite (Took n) len = (0 < n) × (n ≤ len)
FitsWrite Failed len = Unit {0}

-- the bytes that were taken are a front of those that were offered
abbrev pub WriteTakes : SinkAnswer → List ℕ → Option (List ℕ) → Option (List ℕ) → Type 0
WriteTakes (Took n) bytes old new = new ≡ after old (take n bytes)
WriteTakes Failed bytes old new = new ≡ old

-- the count of faults rose at a failure, and stayed at every other answer; it stands still at its
-- last value
abbrev pub WriteCounts : SinkAnswer → ℕ → ℕ → Type 0
WriteCounts (Took n) old new = new ≡ old
WriteCounts Failed old new = Rises old new

-- a front of the bytes was taken
abbrev pub TakesFront : List ℕ → Option (List ℕ) → Option (List ℕ) → Type 0
TakesFront bytes old new = (n : ℕ) × (n ≤ length bytes) × (new ≡ after old (take n bytes))

-- all the bytes were taken, or a front of them
abbrev pub TakesAll : Bool → List ℕ → Option (List ℕ) → Option (List ℕ) → Type 0
TakesAll true bytes old new = new ≡ after old bytes
TakesAll false bytes old new = TakesFront bytes old new

-- the count rose where not all were taken, and else stayed
abbrev pub WriteAllCounts : Bool → ℕ → ℕ → Type 0
WriteAllCounts true old new = new ≡ old
WriteAllCounts false old new = Rises old new

-- one write of these bytes gave that answer
pub record Writes (answer : SinkAnswer) (bytes : List ℕ) (old new : SinkState) : Type 0 where
  pub takes : WriteTakes answer bytes old.taken new.taken
  pub counts : WriteCounts answer old.faults new.faults

-- all the bytes were written; or a front of them, and then the sink failed
pub record WritesAll (all : Bool) (bytes : List ℕ) (old new : SinkState) : Type 0 where
  pub taken : TakesAll all bytes old.taken new.taken
  pub counts : WriteAllCounts all old.faults new.faults
