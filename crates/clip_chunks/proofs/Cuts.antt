-- Chunks are the bytes, cut once.
use Rattle.std.proofs.Common.{◌≡◌, ℕ, ◌<◌, ◌≤◌, min, zero, suc, pred, List, [], ◌∷◌, ◌++◌, length}
use Rattle.std.proofs.Common.{take, drop, refl, sym, ◌∙◌, ap, arith}
use Rattle.std.specs.List.{concat}
use Rattle.std.proofs.lemmas.List.{length-append, length-drop, take-append-drop, take_all}
use Rattle.std.proofs.lemmas.List.{take-append-le, append_cancel_left, append-nil}
use Rattle.clip_chunks.specs.Sending.{cut_into, full_chunk, chunks_of}

empty_is : (xs : List ℕ) → length xs ≤ 0 → xs ≡ []
empty_is [] h = refl
empty_is (x ∷ xs) h = absurd (let n : ⊥ = omega arith in n)

-- more chunks than there are bytes are no other ones
cut_enough : (size : ℕ) → 0 < size → (n m : ℕ) (xs : List ℕ) → length xs ≤ n → length xs ≤ m
    → cut_into size n xs ≡ cut_into size m xs
cut_enough size some zero zero xs le ge = refl
cut_enough size some zero (suc m) [] le ge = refl
cut_enough size some zero (suc m) (x ∷ xs) le ge = absurd (let n : ⊥ = omega arith in n)
cut_enough size some (suc n) zero [] le ge = refl
cut_enough size some (suc n) zero (x ∷ xs) le ge = absurd (let n : ⊥ = omega arith in n)
cut_enough size some (suc n) (suc m) [] le ge = refl
cut_enough size some (suc n) (suc m) (x ∷ xs) le ge =
    let less = length-drop size (x ∷ xs) in
    ap (λ (cs : List (List ℕ)). take size (x ∷ xs) ∷ cs)
    (cut_enough size some n m (drop size (x ∷ xs)) (omega (arith, less)) (omega (arith, less)))

pub cut-concat : (size : ℕ) → 0 < size → (n : ℕ) (xs : List ℕ) → length xs ≤ n
    → concat (cut_into size n xs) ≡ xs
cut-concat size some zero [] le = refl
cut-concat size some zero (x ∷ xs) le = absurd (let n : ⊥ = omega arith in n)
cut-concat size some (suc n) [] le = refl
cut-concat size some (suc n) (x ∷ xs) le =
    let less = length-drop size (x ∷ xs) in
    ap (λ (ys : List ℕ). take size (x ∷ xs) ++ ys)
    (cut-concat size some n (drop size (x ∷ xs)) (omega (arith, less)))
    ∙ take-append-drop size (x ∷ xs)

-- ---- the first chunk

-- a front that is as long as that, or is all
front_is : (size : ℕ) (front rest : List ℕ) → length front ≡ min size (length (front ++ rest))
    → take size (front ++ rest) ≡ front
front_is size front [] long =
    let all : length (front ++ []) ≤ size = omega (arith, long, length-append front []) in
    take_all size (front ++ []) all ∙ append-nil front
front_is size front (x ∷ rest) long =
    let same : length front ≡ size = omega (arith, long, length-append front (x ∷ rest)) in
    let le : size ≤ length front = omega arith in
    take-append-le size front (x ∷ rest) le ∙ take_all size front (omega arith)

rest_is : (size : ℕ) (front rest : List ℕ) → length front ≡ min size (length (front ++ rest))
    → drop size (front ++ rest) ≡ rest
rest_is size front rest long =
    append_cancel_left front (drop size (front ++ rest)) rest
    (ap (λ (t : List ℕ). t ++ drop size (front ++ rest)) (sym (front_is size front rest long))
    ∙ take-append-drop size (front ++ rest))

-- bytes that are not empty are their first chunk and others
cut_one : (size : ℕ) (bytes : List ℕ) → 0 < length bytes
    → cut_into size (length bytes) bytes
    ≡ take size bytes ∷ cut_into size (pred (length bytes)) (drop size bytes)
cut_one size [] some = absurd (let n : ⊥ = omega arith in n)
cut_one size (x ∷ xs) some = refl

cut_front : (size : ℕ) → 0 < size → (front rest : List ℕ)
    → length front ≡ min size (length (front ++ rest)) → 0 < length (front ++ rest)
    → cut_into size (length (front ++ rest)) (front ++ rest)
    ≡ front ∷ cut_into size (length rest) rest
cut_front size pos front rest long some =
    let all : List ℕ = front ++ rest in
    let n : ℕ = pred (length all) in
    let fewer : length rest ≤ n = omega (arith, long, length-append front rest) in
    cut_one size all some
    ∙ ap (λ (t : List ℕ). t ∷ cut_into size n (drop size all)) (front_is size front rest long)
    ∙ ap (λ (t : List ℕ). front ∷ cut_into size n t) (rest_is size front rest long)
    ∙ ap (λ (cs : List (List ℕ)). front ∷ cs)
    (cut_enough size pos n (length rest) rest fewer (omega arith))

pub first_chunk : (bytes front rest : List ℕ) → bytes ≡ front ++ rest
    → length front ≡ min full_chunk (length bytes) → 0 < length bytes
    → chunks_of bytes ≡ front ∷ chunks_of rest
first_chunk bytes front rest is long some =
    ap chunks_of is
    ∙ cut_front full_chunk (omega arith) front rest
    (long ∙ ap (λ (t : List ℕ). min full_chunk (length t)) is)
    (omega (arith, some, ap length is))

pub no_chunk : (bytes : List ℕ) → length bytes ≡ 0 → chunks_of bytes ≡ []
no_chunk bytes none = ap chunks_of (empty_is bytes (omega arith))
