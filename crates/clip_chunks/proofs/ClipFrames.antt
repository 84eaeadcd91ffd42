-- The frames of a clipboard, one after another.
use Rattle.std.proofs.Common.{◌≡◌, ℕ, ◌<◌, min, List, [], ◌∷◌, ◌++◌, length, map, sym, ◌∙◌, ap}
use Rattle.std.specs.Fmt.{decimal}
use Rattle.std.proofs.lemmas.List.{append_assoc, append-nil, map-append}
use Rattle.std.proofs.lemmas.List.Concat.{flat_map-append}
use Rattle.share_base.specs.declared.clip_id.ClipId.{ClipId}
use Rattle.message_codec.specs.declared.clip_mark.ClipMark.TheVariants as mark
use Rattle.message_codec.specs.Streams.{frame_of, frames_of}
use Rattle.clip_chunks.specs.Parts.{Part, part, message_of}
use Rattle.clip_chunks.specs.Sending.{part_frame, full_chunk, chunks_of, part_frames, clip_frames}
use Rattle.clip_chunks.proofs.Cuts.{first_chunk, no_chunk}

-- the frames of chunks
abbrev pub chunk_frames : ClipId → ℕ → List (List ℕ) → List ℕ
chunk_frames clip seq chunks = part_frames (map (part mark.Chunk clip seq) chunks)

part_frames-append : (a b : List Part) → part_frames (a ++ b) ≡ part_frames a ++ part_frames b
part_frames-append a b =
    ap frames_of (map-append message_of a b)
    ∙ flat_map-append frame_of (map message_of a) (map message_of b)

frames_are : (clip : ClipId) (seq : ℕ) (bytes : List ℕ)
    → clip_frames clip seq bytes
    ≡ part_frame mark.Start clip seq (decimal (length bytes))
    ++ (chunk_frames clip seq (chunks_of bytes) ++ part_frame mark.End clip seq [])
frames_are clip seq bytes =
    let start : List ℕ = part_frame mark.Start clip seq (decimal (length bytes)) in
    let chunks : List Part = map (part mark.Chunk clip seq) (chunks_of bytes) in
    ap (λ (t : List ℕ). start ++ t)
    (part_frames-append chunks (part mark.End clip seq [] ∷ [])
    ∙ ap (λ (t : List ℕ). part_frames chunks ++ t)
    (append-nil (part_frame mark.End clip seq [])))

-- one chunk more was put
pub chunk_put : (clip : ClipId) (seq : ℕ) (all out new bytes front rest : List ℕ)
    → out ++ chunk_frames clip seq (chunks_of bytes) ≡ all → bytes ≡ front ++ rest
    → length front ≡ min full_chunk (length bytes) → 0 < length bytes
    → new ≡ out ++ part_frame mark.Chunk clip seq front
    → new ++ chunk_frames clip seq (chunks_of rest) ≡ all
chunk_put clip seq all out new bytes front rest so_far is long some put =
    ap (λ (t : List ℕ). t ++ chunk_frames clip seq (chunks_of rest)) put
    ∙ append_assoc out (part_frame mark.Chunk clip seq front)
    (chunk_frames clip seq (chunks_of rest))
    ∙ ap (λ (cs : List (List ℕ)). out ++ chunk_frames clip seq cs)
    (sym (first_chunk bytes front rest is long some))
    ∙ so_far

-- a start, all chunks and an end were put
pub all_put : (clip : ClipId) (seq : ℕ) (bytes size old begun out rest new : List ℕ)
    → size ≡ decimal (length bytes) → begun ≡ old ++ part_frame mark.Start clip seq size
    → out ++ chunk_frames clip seq (chunks_of rest)
    ≡ begun ++ chunk_frames clip seq (chunks_of bytes)
    → length rest ≡ 0 → new ≡ out ++ part_frame mark.End clip seq []
    → new ≡ old ++ clip_frames clip seq bytes
all_put clip seq bytes size old begun out rest new digits start chunks none last =
    let front : List ℕ = part_frame mark.Start clip seq (decimal (length bytes)) in
    let middle : List ℕ = chunk_frames clip seq (chunks_of bytes) in
    let end : List ℕ = part_frame mark.End clip seq [] in
    let start_is : begun ≡ old ++ front =
    start ∙ ap (λ (t : List ℕ). old ++ part_frame mark.Start clip seq t) digits in
    let out_is : out ≡ begun ++ middle =
    sym (append-nil out)
    ∙ ap (λ (cs : List (List ℕ)). out ++ chunk_frames clip seq cs)
    (sym (no_chunk rest none))
    ∙ chunks in
    last
    ∙ ap (λ (t : List ℕ). t ++ end)
    (out_is ∙ ap (λ (t : List ℕ). t ++ middle) start_is ∙ append_assoc old front middle)
    ∙ append_assoc old (front ++ middle) end
    ∙ ap (λ (t : List ℕ). old ++ t)
    (append_assoc front middle end ∙ sym (frames_are clip seq bytes))
