-- An assembly gives the wholes that its parts end.
use Rattle.std.proofs.Common.{◌≡◌, ℕ, ◌+◌, Bool, true, false, not, ◌&&◌, List, length, Option, Some}
use Rattle.std.proofs.Common.{None, Result, Ok, Err, refl, sym, ◌∙◌, ap}
use Rattle.std.specs.Prelude.{if◌then◌else◌, ◌==◌, nat_le, IfOk}
use Rattle.message_codec.specs.declared.clip_mark.ClipMark.{ClipMark}
use Rattle.message_codec.specs.declared.clip_mark.ClipMark.TheVariants as mark
use Rattle.clip_chunks.specs.declared.run.Run.{Run}
use Rattle.clip_chunks.specs.declared.took.Took.{Took}
use Rattle.clip_chunks.specs.declared.took.Took.TheVariants.{Started, Going, Whole, Dropped}
use Rattle.clip_chunks.specs.declared.took.Cause.TheVariants.{TooLarge, SeqChanged, Over, Mismatch}
use Rattle.clip_chunks.specs.Parts.{Part, part}
use Rattle.clip_chunks.specs.Wholes.{size_of, EndsWhole}
use Rattle.clip_chunks.specs.OpenRuns.{closes, whole_by, whole_at}
use Rattle.clip_chunks.specs.Assemblies.{AssemblyParts, start_answer, chunk_answer, end_answer}
use Rattle.clip_chunks.specs.Assemblies.{answer, whole_in, IsAnswer, GivesWhole, Answers}
use Rattle.clip_chunks.proofs.EndedRuns.{ends_whole, whole_found}

none_if : (b : Bool) (t u : Took) → whole_in t ≡ None → whole_in u ≡ None
    → whole_in (if b then t else u) ≡ None
none_if true t u h k = h
none_if false t u h k = k

start_none : (limit : ℕ) (size : Option ℕ) → whole_in (start_answer limit size) ≡ None
start_none limit None = refl
start_none limit (Some size) =
    none_if (nat_le size limit) Started (Dropped (TooLarge size)) refl refl

chunk_none : (seq : ℕ) (bytes : List ℕ) (r : Option Run)
    → whole_in (chunk_answer seq bytes r) ≡ None
chunk_none seq bytes None = refl
chunk_none seq bytes (Some r) =
    let got = length r.bytes + length bytes in
    none_if (not (r.seq == seq)) (Dropped (SeqChanged r.seq seq))
    (if nat_le got r.size then Going else Dropped (Over r.size got)) refl
    (none_if (nat_le got r.size) Going (Dropped (Over r.size got)) refl refl)

end_tests : (a b : Bool) (r : Run) (t u : Took) → whole_in t ≡ None → whole_in u ≡ None
    → whole_in (if not a then t else if b then Whole r.bytes else u)
    ≡ (if (a && b) then Some r.bytes else None)
end_tests true true r t u h k = refl
end_tests true false r t u h k = k
end_tests false b r t u h k = h

end_closes : (seq : ℕ) (r : Option Run) → whole_in (end_answer seq r) ≡ closes seq r
end_closes seq None = refl
end_closes seq (Some r) =
    end_tests (r.seq == seq) (length r.bytes == r.size) r (Dropped (SeqChanged r.seq seq))
    (Dropped (Mismatch r.size (length r.bytes))) refl refl

pub answered : (limit : ℕ) (m : ClipMark) (seq : ℕ) (bytes : List ℕ) (r : Option Run)
    → whole_in (answer limit m seq bytes r) ≡ whole_by m seq r
answered limit mark.Start seq bytes r = start_none limit (size_of bytes)
answered limit mark.Chunk seq bytes r = chunk_none seq bytes r
answered limit mark.End seq bytes r = end_closes seq r

ends_none : (limit : ℕ) (newest : Part) (older : List Part) → None ≡ whole_at limit newest older
    → (bytes : List ℕ) → EndsWhole limit bytes newest older → ⊥
ends_none limit newest older h bytes e =
    let k : None ≡ Some bytes = h ∙ whole_found limit bytes newest older e in let x : ⊥ = cc in x

gives : (took : Took) (limit : ℕ) (newest : Part) (older : List Part)
    → whole_in took ≡ whole_at limit newest older → GivesWhole took limit newest older
gives (Whole bytes) limit newest older h = ends_whole limit bytes newest older (sym h)
gives Started limit newest older h = ends_none limit newest older h
gives Going limit newest older h = ends_none limit newest older h
gives (Dropped cause) limit newest older h = ends_none limit newest older h

pub answers_rightly : (old : AssemblyParts) (m : ClipMark) (seq : ℕ) (bytes : List ℕ) (took : Took)
    → IsAnswer old m seq bytes took → Answers old m seq bytes took
answers_rightly old m seq bytes took is limit clip parts stands =
    let found : whole_in took ≡ whole_at limit (part m clip seq bytes) parts =
    ap whole_in is ∙ answered old.limit m seq bytes old.run
    ∙ ap (whole_by m seq) stands.run_is in
    record { found = found; whole = gives took limit (part m clip seq bytes) parts found }

pub right_where_ok : {E : Type 0} (old : AssemblyParts) (m : ClipMark) (seq : ℕ) (bytes : List ℕ)
    (r : Result Took E)
    → IfOk r (λ took. IsAnswer old m seq bytes took) → IfOk r (λ took. Answers old m seq bytes took)
right_where_ok old m seq bytes (Ok took) is = answers_rightly old m seq bytes took is
right_where_ok old m seq bytes (Err e) is = is
