-- Every chunk but the last is full.
use Rattle.std.proofs.Common.{◌≡◌, ℕ, ◌<◌, ◌≤◌, min, zero, suc, List, [], ◌∷◌, length, take, drop}
use Rattle.std.proofs.Common.{arith}
use Rattle.std.proofs.lemmas.List.{length-take, length-drop}
use Rattle.clip_chunks.specs.Sending.{cut_into, full_chunk, AreFull, IsCut}
use Rattle.clip_chunks.proofs.Cuts.{cut-concat}

-- a full chunk before full ones, or a last one
one_more : (chunk rest : List ℕ) (n : ℕ) → 0 < length chunk → length chunk ≤ full_chunk
    → (0 < length rest → length chunk ≡ full_chunk) → AreFull (cut_into full_chunk n rest)
    → AreFull (chunk ∷ cut_into full_chunk n rest)
one_more chunk rest zero some within full more = (some, within)
one_more chunk [] (suc n) some within full more = (some, within)
one_more chunk (x ∷ rest) (suc n) some within full more = (full (omega arith), more)

are_full : (n : ℕ) (xs : List ℕ) → AreFull (cut_into full_chunk n xs)
are_full zero xs = tt
are_full (suc n) [] = tt
are_full (suc n) (x ∷ xs) =
    let all : List ℕ = x ∷ xs in
    let front : length (take full_chunk all) ≡ min full_chunk (length all) =
    length-take full_chunk all in
    let rest = length-drop full_chunk all in
    one_more (take full_chunk all) (drop full_chunk all) n (omega (arith, front))
    (omega (arith, front)) (λ some. omega (arith, front, rest, some))
    (are_full n (drop full_chunk all))

pub is_cut : (bytes : List ℕ) → IsCut bytes
is_cut bytes = (
  cut-concat full_chunk (omega arith) (length bytes) bytes (omega arith),
  are_full (length bytes) bytes,
)
