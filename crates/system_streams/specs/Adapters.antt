-- What an adapter answers, where the reader or writer below it says which bytes it holds.
use Rattle.std.specs.Prelude.{ℕ, List, take, Option, None}
use Rattle.std.specs.Io.KnownBytes.{Keeps, Appends, Consumes, IsAtEnd}
use Rattle.share_base.specs.Reading.{SourceState}
use Rattle.share_base.specs.Writing.{SinkState}
use Rattle.share_base.specs.declared.source.SourceAnswer.{SourceAnswer}
use Rattle.share_base.specs.declared.source.SourceAnswer.TheVariants.{Got, End}
use Rattle.share_base.specs.declared.source.SourceAnswer.TheVariants.{Failed as ReadFailed}
use Rattle.share_base.specs.declared.sink.SinkAnswer.{SinkAnswer}
use Rattle.share_base.specs.declared.sink.SinkAnswer.TheVariants.{Took, Failed as WriteFailed}

-- of which no byte is known
abbrev pub unknown_input : ℕ → SourceState
unknown_input faults =
    record { left = None; ended = None; left_before = None; ended_before = None; faults = faults }

abbrev pub unknown_output : ℕ → SinkState
unknown_output faults = record { taken = None; faults = faults }

-- the reader gave its next bytes; it answers the end only if it holds none, and loses none by a
-- failure
abbrev pub ReadsFrom : {R : Type 0} → (R → Option (List ℕ)) → R → R → SourceAnswer → List ℕ → Type 0
ReadsFrom held old new (Got n) buf = Consumes (held old) (held new) (take n buf)
ReadsFrom held old new End buf = IsAtEnd (held old) × Keeps (held old) (held new)
ReadsFrom held old new ReadFailed buf = Keeps (held old) (held new)

-- the writer took the bytes that the answer counts, and none at a failure
abbrev pub WritesTo : {W : Type 0} → (W → Option (List ℕ)) → W → W → SinkAnswer → List ℕ → Type 0
WritesTo held old new (Took n) bytes = Appends (held old) (held new) (take n bytes)
WritesTo held old new WriteFailed bytes = Keeps (held old) (held new)
