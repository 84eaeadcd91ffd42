-- What an assembly keeps and answers.
use Rattle.std.specs.Prelude.{◌≡◌, ℕ, ◌+◌, ◌≤◌, not, ◌==◌, nat_le, List, [], ◌∷◌, length, Option}
use Rattle.std.specs.Prelude.{Some, None, IfSome, if◌then◌else◌}
use Rattle.share_base.specs.declared.clip_id.ClipId.{ClipId}
use Rattle.message_codec.specs.declared.clip_mark.ClipMark.{ClipMark}
use Rattle.message_codec.specs.declared.clip_mark.ClipMark.TheVariants as mark
use Rattle.clip_chunks.specs.declared.run.Run.{Run}
use Rattle.clip_chunks.specs.declared.took.Took.{Took}
use Rattle.clip_chunks.specs.declared.took.Took.TheVariants.{Started, Going, Whole, Dropped}
use Rattle.clip_chunks.specs.declared.took.Cause.TheVariants.{BadSize, TooLarge, NoStart}
use Rattle.clip_chunks.specs.declared.took.Cause.TheVariants.{SeqChanged, Over, Mismatch}
use Rattle.clip_chunks.specs.Parts.{Part, part, of_clip}
use Rattle.clip_chunks.specs.Wholes.{size_of, EndsWhole}
use Rattle.clip_chunks.specs.OpenRuns.{open_run, run_after, whole_at}

-- the limit, and the run that is open
pub record AssemblyParts : Type 0 where
  pub limit : ℕ
  pub run : Option Run

-- the run is no longer than it is to become, and that is within the limit
abbrev pub HoldsLittle : AssemblyParts → Type 0
HoldsLittle a = IfSome a.run (λ r. (length r.bytes ≤ r.size) × (r.size ≤ a.limit))

-- the bytes that have come of what is on its way
abbrev pub bytes_so_far : Option Run → List ℕ
bytes_so_far None = []
bytes_so_far (Some r) = r.bytes

-- ---- answers

-- to a start that says that size
abbrev pub start_answer : ℕ → Option ℕ → Took
start_answer limit None = Dropped BadSize
start_answer limit (Some size) = if nat_le size limit then Started else Dropped (TooLarge size)

-- to a chunk
abbrev pub chunk_answer : ℕ → List ℕ → Option Run → Took
chunk_answer seq bytes None = Dropped NoStart
chunk_answer seq bytes (Some r) =
    if not (r.seq == seq) then Dropped (SeqChanged r.seq seq) else
    if nat_le (length r.bytes + length bytes) r.size then Going
    else Dropped (Over r.size (length r.bytes + length bytes))

-- to an end
abbrev pub end_answer : ℕ → Option Run → Took
end_answer seq None = Dropped NoStart
end_answer seq (Some r) =
    if not (r.seq == seq) then Dropped (SeqChanged r.seq seq) else
    if length r.bytes == r.size then Whole r.bytes else Dropped (Mismatch r.size (length r.bytes))

abbrev pub answer : ℕ → ClipMark → ℕ → List ℕ → Option Run → Took
answer limit mark.Start seq bytes r = start_answer limit (size_of bytes)
answer limit mark.Chunk seq bytes r = chunk_answer seq bytes r
answer limit mark.End seq bytes r = end_answer seq r

-- ---- one call

-- the answer is that to the part, by what was kept
abbrev pub IsAnswer : AssemblyParts → ClipMark → ℕ → List ℕ → Took → Type 0
IsAnswer old mark seq bytes took = took ≡ answer old.limit mark seq bytes old.run

-- the run is kept that the part leaves
abbrev pub Keeps : AssemblyParts → AssemblyParts → ClipMark → ℕ → List ℕ → Type 0
Keeps old new mark seq bytes = new ≡ record old { run = run_after old.limit mark seq bytes old.run }

-- ---- over all calls

-- the assembly keeps what a clipboard's parts leave, the newest first
pub record StandsFor (limit : ℕ) (clip : ClipId) (a : AssemblyParts) (parts : List Part)
    : Type 0 where
  pub limit_is : a.limit ≡ limit
  pub run_is : a.run ≡ open_run limit (of_clip clip parts)

-- whatever parts it stood for, it stands for them and one more
abbrev pub Takes : AssemblyParts → AssemblyParts → ClipMark → ℕ → List ℕ → Type 0
Takes old new mark seq bytes =
    (limit : ℕ) (clip : ClipId) (parts : List Part) → StandsFor limit clip old parts
    → StandsFor limit clip new (part mark clip seq bytes ∷ parts)

-- the bytes that an answer gives
abbrev pub whole_in : Took → Option (List ℕ)
whole_in (Whole bytes) = Some bytes
whole_in Started = None
whole_in Going = None
whole_in (Dropped cause) = None

-- the answer is the whole that the newest part ends; another one comes where it ends none
abbrev pub GivesWhole : Took → ℕ → Part → List Part → Type 0
GivesWhole (Whole bytes) limit newest older = EndsWhole limit bytes newest older
GivesWhole Started limit newest older = (bytes : List ℕ) → EndsWhole limit bytes newest older → ⊥
GivesWhole Going limit newest older = (bytes : List ℕ) → EndsWhole limit bytes newest older → ⊥
GivesWhole (Dropped cause) limit newest older =
    (bytes : List ℕ) → EndsWhole limit bytes newest older → ⊥

-- and it is what is found by the run that was open
pub record IsRight (took : Took) (limit : ℕ) (newest : Part) (older : List Part) : Type 0 where
  pub found : whole_in took ≡ whole_at limit newest older
  pub whole : GivesWhole took limit newest older

-- whatever parts the assembly stood for, the answer to one more is right
abbrev pub Answers : AssemblyParts → ClipMark → ℕ → List ℕ → Took → Type 0
Answers old mark seq bytes took =
    (limit : ℕ) (clip : ClipId) (parts : List Part) → StandsFor limit clip old parts
    → IsRight took limit (part mark clip seq bytes) parts
