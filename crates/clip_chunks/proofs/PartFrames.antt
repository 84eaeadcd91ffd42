-- The frame of a part, piece by piece.
use Rattle.std.proofs.Common.{◌≡◌, ℕ, ◌+◌, ◌≤◌, List, [], ◌∷◌, ◌++◌, length, take, sym, ◌∙◌, ap}
use Rattle.std.proofs.Common.{arith}
use Rattle.std.specs.Prelude.{codes}
use Rattle.std.specs.Int.{w32, to_be_bytes}
use Rattle.std.proofs.lemmas.List.{append_assoc, append-nil, length-take, take-append-le, take_all}
use Rattle.share_base.specs.declared.clip_id.ClipId.{ClipId}
use Rattle.share_base.specs.Clips.{clip_number}
use Rattle.message_codec.specs.declared.clip_mark.ClipMark.{ClipMark}
use Rattle.message_codec.specs.Marks.{mark_number}
use Rattle.message_codec.specs.Spelling.{body_of}
use Rattle.message_codec.specs.Streams.{frame_of}
use Rattle.clip_chunks.specs.Parts.{part, message_of}
use Rattle.clip_chunks.specs.Sending.{before_bytes}

-- the body after its code
fields : ClipId → ClipMark → ℕ → List ℕ → List ℕ
fields clip m seq bytes =
    (clip_number clip ∷ [])
    ++ (to_be_bytes w32 seq ++ ((mark_number m ∷ []) ++ (to_be_bytes w32 (length bytes) ++ bytes)))

body_is : (clip : ClipId) (m : ClipMark) (seq : ℕ) (bytes : List ℕ)
    → body_of (message_of (part m clip seq bytes)) ≡ codes "DCLP" ++ fields clip m seq bytes
unfolding fields
body_is clip m seq bytes =
    ap
    (λ (t : List ℕ). codes "DCLP"
    ++ ((clip_number clip ∷ [])
    ++ (to_be_bytes w32 seq
    ++ ((mark_number m ∷ []) ++ (to_be_bytes w32 (length bytes) ++ t)))))
    (append-nil bytes)

length_is : (clip : ClipId) (m : ClipMark) (seq : ℕ) (bytes : List ℕ)
    → length (codes "DCLP" ++ fields clip m seq bytes) ≡ 14 + length bytes
unfolding fields
length_is clip m seq bytes = omega arith

frame_is : (clip : ClipId) (m : ClipMark) (seq : ℕ) (bytes : List ℕ)
    → frame_of (message_of (part m clip seq bytes))
    ≡ to_be_bytes w32 (14 + length bytes) ++ (codes "DCLP" ++ fields clip m seq bytes)
frame_is clip m seq bytes =
    let body : List ℕ = codes "DCLP" ++ fields clip m seq bytes in
    ap (λ (b : List ℕ). to_be_bytes w32 (length b) ++ b) (body_is clip m seq bytes)
    ∙ ap (λ (n : ℕ). to_be_bytes w32 n ++ body) (length_is clip m seq bytes)

pub put_two : (clip : ClipId) (m : ClipMark) (seq : ℕ) (bytes old a b : List ℕ)
    → a ≡ old ++ before_bytes clip seq m (length bytes) → b ≡ a ++ bytes
    → b ≡ old ++ frame_of (message_of (part m clip seq bytes))
unfolding fields
put_two clip m seq bytes old a b ia ib =
    ib ∙ ap (λ (t : List ℕ). t ++ bytes) ia
    ∙ append_assoc old (before_bytes clip seq m (length bytes)) bytes
    ∙ ap (λ (t : List ℕ). old ++ t) (sym (frame_is clip m seq bytes))

pub begins_more : (old a more b : List ℕ) → take (length old) a ≡ old → b ≡ a ++ more
    → take (length old) b ≡ old
begins_more old a more b is more_is =
    let le : length old ≤ length a = omega (arith, length-take (length old) a, ap length is) in
    ap (take (length old)) more_is ∙ take-append-le (length old) a more le ∙ is

pub begins_at : (old more : List ℕ) → take (length old) (old ++ more) ≡ old
begins_at old more =
    take-append-le (length old) old more (omega arith) ∙ take_all (length old) old (omega arith)
