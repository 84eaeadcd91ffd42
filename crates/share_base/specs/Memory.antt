-- What the source and the sink in memory stand for.
use Rattle.std.specs.Prelude.{◌≡◌, ℕ, Bool, false, List, [], Some}
use Rattle.share_base.specs.Counts.{one_more}
use Rattle.share_base.specs.Reading.{SourceState}
use Rattle.share_base.specs.Writing.{SinkState}

-- what is to be read, with the two values before the latest read, and the calls that fail
pub record MemoryInput : Type 0 where
  pub left : List ℕ
  pub ended : Bool
  pub left_before : List ℕ
  pub ended_before : Bool
  pub failing : List ℕ
  pub calls : ℕ
  pub faults : ℕ

-- nothing was read yet
abbrev pub input_of : List ℕ → List ℕ → MemoryInput
input_of bytes failing =
    record {
      left = bytes;
      ended = false;
      left_before = bytes;
      ended_before = false;
      failing = failing;
      calls = 0;
      faults = 0;
    }

-- as a source: all is known
abbrev pub input_state : MemoryInput → SourceState
input_state s =
    record {
      left = Some s.left;
      ended = Some s.ended;
      left_before = Some s.left_before;
      ended_before = Some s.ended_before;
      faults = s.faults;
    }

-- one call more was made, and the same calls fail
pub record SameInput (old new : MemoryInput) : Type 0 where
  pub failing : new.failing ≡ old.failing
  pub calls : new.calls ≡ one_more old.calls

-- what was taken, how much is taken at most in all, and the calls that fail
pub record MemoryOutput : Type 0 where
  pub taken : List ℕ
  pub room : ℕ
  pub failing : List ℕ
  pub calls : ℕ
  pub faults : ℕ

-- nothing was taken yet
abbrev pub output_of : ℕ → List ℕ → MemoryOutput
output_of room failing =
    record { taken = []; room = room; failing = failing; calls = 0; faults = 0 }

-- as a sink: all is known
abbrev pub output_state : MemoryOutput → SinkState
output_state s = record { taken = Some s.taken; faults = s.faults }

-- one call more was made; the room and the calls that fail are the same
pub record SameOutput (old new : MemoryOutput) : Type 0 where
  pub room : new.room ≡ old.room
  pub failing : new.failing ≡ old.failing
  pub calls : new.calls ≡ one_more old.calls
