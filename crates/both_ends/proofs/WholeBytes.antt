-- The bytes of a whole clipboard are bytes, where those of its parts are.
use Rattle.std.specs.Prelude.{ℕ, List, [], ◌∷◌, map, reverse}
use Rattle.std.specs.List.{concat, AllByRecursion}
use Rattle.std.proofs.Common.{sym, subst}
use Rattle.share_base.specs.declared.clip_id.ClipId.{ClipId}
use Rattle.message_codec.specs.declared.clip_mark.ClipMark.TheVariants as mark
use Rattle.message_codec.specs.Streams.{AreBytes}
use Rattle.message_reader.proofs.Stepping.{bytes-append}
use Rattle.clip_chunks.specs.Parts.{Part, part, run, of_clip, same_clip}
use Rattle.clip_chunks.specs.Wholes.{IsWhole, EndsWhole}
use Rattle.both_ends.proofs.InRange.{IsBytePart}
use Rattle.both_ends.proofs.AllOfLists.{all-first, all-last, all-reverse, all-filter}

chunks_bytes : (clip : ClipId) (seq : ℕ) (chunks : List (List ℕ)) → AllByRecursion IsBytePart (map (part mark.Chunk clip seq) chunks) → AreBytes (concat chunks)
chunks_bytes clip seq [] h = tt
chunks_bytes clip seq (c ∷ cs) h = bytes-append c (concat cs) h.0 (chunks_bytes clip seq cs h.1)

whole_bytes : (limit : ℕ) (clip : ClipId) (seq : ℕ) (bytes : List ℕ) (parts : List Part) → IsWhole limit clip seq bytes parts → AllByRecursion IsBytePart parts → AreBytes bytes
whole_bytes limit clip seq bytes parts w h =
    let all : AllByRecursion IsBytePart (run clip seq w.digits w.chunks w.ignored) = subst (AllByRecursion IsBytePart) w.parts_are h in
    subst AreBytes (sym w.bytes_are) (chunks_bytes clip seq w.chunks (all-first IsBytePart (map (part mark.Chunk clip seq) w.chunks) (part mark.End clip seq w.ignored ∷ []) all.1))

pub ended-bytes : (limit : ℕ) (bytes : List ℕ) (newest : Part) (older : List Part) → EndsWhole limit bytes newest older → AllByRecursion IsBytePart (newest ∷ older) → AreBytes bytes
ended-bytes limit bytes newest older e h =
    let own : List Part = of_clip newest.clip (newest ∷ older) in
    let turned : AllByRecursion IsBytePart (reverse own) = all-reverse IsBytePart own (all-filter IsBytePart (λ p. same_clip newest.clip p.clip) (newest ∷ older) h) in
    whole_bytes limit newest.clip newest.seq bytes e.parts e.whole (all-last IsBytePart e.before e.parts (subst (AllByRecursion IsBytePart) e.last turned))
