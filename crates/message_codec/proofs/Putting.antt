-- Putting one thing after the other.
use Rattle.std.proofs.Common.{◌≡◌, ℕ, zero, suc, ◌+◌, ◌*◌, ◌^◌, ◌<◌, ◌≤◌, List, [], ◌∷◌, ◌++◌}
use Rattle.std.proofs.Common.{length, get_or, take, Some, refl, sym, ap, subst, ◌∙◌, append_assoc}
use Rattle.std.proofs.Common.{add-one, arith}
use Rattle.std.specs.Prelude.{slice_get, Result, Ok, Err, OnOk}
use Rattle.std.specs.List.{flat_map, AllByRecursion}
use Rattle.std.specs.Int.{w32, to_be_bytes}
use Rattle.std.proofs.lemmas.Grind.{flat_map-append}
use Rattle.std.proofs.lemmas.List.{append-nil, length-append}
use Rattle.std.proofs.lemmas.List.Concat.{flat_map-cons}
use Rattle.share_base.specs.Fronts.{IsFront}
use Rattle.share_base.proofs.Fronts.{front_of_longer}
use Rattle.message_codec.specs.Fields.{spelled, Fits, Words}

pub take_one : {A : Type 0} (xs : List A) (i : ℕ) (x : A) → slice_get xs i ≡ Some x
    → take (i + 1) xs ≡ take i xs ++ x ∷ []
take_one xs i x at = ap (λ (n : ℕ). take n xs) (add-one i) ∙ next xs i x at
  where
    next : {A : Type 0} (xs : List A) (i : ℕ) (x : A) → slice_get xs i ≡ Some x
        → take (suc i) xs ≡ take i xs ++ x ∷ []
    next [] i x at = absurd cc
    next (y ∷ ys) zero x at = cc
    next (y ∷ ys) (suc i) x at = ap (λ zs. y ∷ zs) (next ys i x at)

flat_map-take : {A : Type 0} (g : A → List ℕ) (xs : List A) (i : ℕ) (x : A)
    → slice_get xs i ≡ Some x → flat_map g (take (i + 1) xs) ≡ flat_map g (take i xs) ++ g x
flat_map-take g xs i x at =
    ap (flat_map g) (take_one xs i x at) ∙ flat_map-append g (take i xs) (x ∷ [])
    ∙ ap (λ (t : List ℕ). flat_map g (take i xs) ++ t) (flat_map-cons g x [] ∙ append-nil (g x))

-- one thing more was put
pub put_more : {A : Type 0} (g : A → List ℕ) (old out new : List ℕ) (xs : List A) (i : ℕ) (x : A)
    → out ≡ old ++ flat_map g (take i xs) → slice_get xs i ≡ Some x → new ≡ out ++ g x
    → new ≡ old ++ flat_map g (take (i + 1) xs)
put_more g old out new xs i x so_far at more =
    more ∙ ap (λ (t : List ℕ). t ++ g x) so_far ∙ append_assoc old (flat_map g (take i xs)) (g x)
    ∙ ap (λ (t : List ℕ). old ++ t) (sym (flat_map-take g xs i x at))

pub length-flat_map_take : {A : Type 0} (g : A → List ℕ) (xs : List A) (i : ℕ) (x : A)
    → slice_get xs i ≡ Some x
    → length (flat_map g (take (i + 1) xs)) ≡ length (flat_map g (take i xs)) + length (g x)
length-flat_map_take g xs i x at =
    ap length (flat_map-take g xs i x at) ∙ length-append (flat_map g (take i xs)) (g x)

-- each is at most as long as all
pub one_within : {A : Type 0} (g : A → List ℕ) (xs : List A) (i : ℕ) (x : A)
    → slice_get xs i ≡ Some x → length (g x) ≤ length (flat_map g xs)
one_within g [] i x at = absurd cc
one_within g (y ∷ ys) zero x at =
    let same : length (g y) ≡ length (g x) = ap (λ z. length (g z)) (first y x at) in
    omega (arith, same, ap length (flat_map-cons g y ys), length-append (g y) (flat_map g ys))
  where
    first : {A : Type 0} (y x : A) → slice_get (y ∷ []) 0 ≡ Some x → y ≡ x
    first y x at = cc
one_within g (y ∷ ys) (suc i) x at =
    let later : length (g x) ≤ length (flat_map g ys) = one_within g ys i x at in
    omega (arith, ap length (flat_map-cons g y ys), length-append (g y) (flat_map g ys))

pub all_more : {A : Type 0} (P : A → Type 0) (xs : List A) (i : ℕ) (x : A) → slice_get xs i ≡ Some x
    → AllByRecursion P (take i xs) → P x → AllByRecursion P (take (i + 1) xs)
all_more P xs i x at so_far more =
    subst (AllByRecursion P) (sym (take_one xs i x at)) (all-last (take i xs) so_far)
  where
    all-last : (ys : List _) → AllByRecursion P ys → AllByRecursion P (ys ++ x ∷ [])
    all-last [] h = (more, tt)
    all-last (y ∷ ys) h = (h.0, all-last ys h.1)

pub all_below : (ns : List ℕ) → ((i : ℕ) → get_or ns i 0 < 2 ^ 32)
    → AllByRecursion (λ n. n < 2 ^ 32) ns
all_below [] h = tt
all_below (n ∷ ns) h = (h 0, all_below ns (λ i. h (suc i)))

-- ---- how long words are

pub length-words : (ns : List ℕ) → length (flat_map (to_be_bytes w32) ns) ≡ 4 * length ns
length-words [] = refl
length-words (n ∷ ns) =
    omega (
      arith,
      ap length (flat_map-cons (to_be_bytes w32) n ns),
      length-append (to_be_bytes w32 n) (flat_map (to_be_bytes w32) ns),
      length-words ns,
    )

pub length-spelled_words : (ns : List ℕ) → length (spelled (Words ns)) ≡ 4 + 4 * length ns
length-spelled_words ns =
    length-append (to_be_bytes w32 (length ns)) (flat_map (to_be_bytes w32) ns)
    ∙ ap (λ (n : ℕ). 4 + n) (length-words ns)

pub words_are_few : (ns : List ℕ) → length (spelled (Words ns)) ≤ 4194304 → length ns < 2 ^ 32
words_are_few ns le = omega (arith, length-spelled_words ns)

pub words_fit : (ns : List ℕ) → length (spelled (Words ns)) ≤ 4194304
    → AllByRecursion (λ n. n < 2 ^ 32) ns → Fits (Words ns)
words_fit ns le small = (words_are_few ns le, small)

-- what holds however a call ends
pub always : {T E P : Type 0} (r : Result T E) → P → OnOk r P
always (Ok x) p = p
always (Err e) p = tt

-- on an error a loop leaves what stood there before it at the front
pub front_of_loop : (old text more out new : List ℕ) → out ≡ (old ++ text) ++ more → IsFront out new
    → IsFront old new
front_of_loop old text more out new so_far begins =
    front_of_longer old (text ++ more) out new (so_far ∙ append_assoc old text more) begins
