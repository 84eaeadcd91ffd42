-- Laws on lists that are told or not, and on the fronts of lists that reads and writes move.
use Rattle.std.proofs.Common.{◌≡◌, ℕ, ◌+◌, ◌-◌, ◌<◌, ◌≤◌, List, [], ◌++◌, length, take, drop}
use Rattle.std.proofs.Common.{Option, Some, None, refl, sym, ap, ◌∙◌, append_assoc, arith}
use Rattle.std.proofs.Math.Seq.{take-add}
use Rattle.std.proofs.lemmas.List.{append-nil, take_at, take-append-drop, drop-drop, take_rest}
use Rattle.std.proofs.lemmas.List.{length-take, length-drop}
use Rattle.share_base.specs.Told.{before, after}

-- adding twice is adding both
pub after-after : (told : Option (List ℕ)) (xs ys : List ℕ)
    → after (after told xs) ys ≡ after told (xs ++ ys)
after-after None xs ys = refl
after-after (Some zs) xs ys = ap (λ (t : List ℕ). Some t) (append_assoc zs xs ys)

pub after-nil : (told : Option (List ℕ)) → after told [] ≡ told
after-nil None = refl
after-nil (Some zs) = ap (λ (t : List ℕ). Some t) (append-nil zs)

pub before-before : (told : Option (List ℕ)) (xs ys : List ℕ)
    → before xs (before ys told) ≡ before (xs ++ ys) told
before-before None xs ys = refl
before-before (Some zs) xs ys = ap (λ (t : List ℕ). Some t) (sym (append_assoc xs ys zs))

pub before-nil : (told : Option (List ℕ)) → before [] told ≡ told
before-nil None = refl
before-nil (Some zs) = refl

-- a front of what is left after a front is a longer front
pub front_grows : (old middle new : Option (List ℕ)) (at n : ℕ) (bytes : List ℕ)
    → middle ≡ after old (take at bytes)
    → new ≡ after middle (take n (take (length bytes - at) (drop at bytes)))
    → new ≡ after old (take (at + n) bytes)
front_grows old middle new at n bytes so_far more =
    more ∙ ap (λ (t : List ℕ). after middle (take n t)) (take_rest bytes at)
    ∙ ap (λ (o : Option (List ℕ)). after o (take n (drop at bytes))) so_far
    ∙ after-after old (take at bytes) (take n (drop at bytes))
    ∙ ap (after old) (sym (take-add at n bytes))

pub front_fits : (at n : ℕ) (bytes : List ℕ) → at < length bytes
    → (0 < n) × (n ≤ length (take (length bytes - at) (drop at bytes))) → at + n ≤ length bytes
front_fits at n bytes lt fits = omega (arith, ap length (take_rest bytes at), length-drop at bytes)

-- what was copied into the front of a buffer, and what is left after it, are what was left before
pub copied_front : (bytes part buffer : List ℕ) (at n : ℕ) → at + n ≤ length bytes
    → part ≡ take (at + n - at) (drop at bytes)
    → drop at bytes ≡ take n (part ++ buffer) ++ drop (at + n) bytes
copied_front bytes part buffer at n fits part-is =
    let count : at + n - at ≡ n = omega arith in
    let front : part ≡ take n (drop at bytes) =
    part-is ∙ ap (λ (m : ℕ). take m (drop at bytes)) count in
    let long : length part ≡ n =
    ap length front ∙ omega (arith, length-take n (drop at bytes), length-drop at bytes) in
    sym
    (ap (λ (t : List ℕ). t ++ drop (at + n) bytes) (take_at part buffer n long ∙ front)
    ∙ ap (λ (t : List ℕ). take n (drop at bytes) ++ t) (sym (drop-drop n at bytes))
    ∙ take-append-drop n (drop at bytes))
