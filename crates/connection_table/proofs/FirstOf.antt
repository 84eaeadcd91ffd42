-- A write at the first place that passes a test.
use Rattle.std.specs.Prelude.{◌≡◌, refl, ℕ, ◌+◌, ◌<◌, ◌≤◌, nat_lt, suc, Bool, true, false, not, cond, List, [], ◌∷◌, length, MatchBool, Some, None}
use Rattle.std.specs.List.{find, position_or_len, position}
use Rattle.std.proofs.Common.{arith, sym, ap, ◌∙◌, subst, get_or, set}
use Rattle.std.proofs.lemmas.Bool.Decides.{nat_tests}
use Rattle.machine.proofs.Finding.{none_some, some_is}
use Rattle.connection_table.specs.FirstOf.{FirstChanges}

-- that place, or the length
place : {X : Type 0} → (X → Bool) → List X → ℕ
place test [] = 0
place test (x ∷ xs) = cond (test x) 0 (suc (place test xs))

place-is : {X : Type 0} (test : X → Bool) (xs : List X) → position_or_len test xs ≡ place test xs
unfolding place
place-is test [] = refl
place-is test (x ∷ xs) = by (test x) (place-is test xs)
  where
    by : (b : Bool) → position_or_len test xs ≡ place test xs → cond (not b) (1 + position_or_len test xs) 0 ≡ cond b 0 (suc (place test xs))
    by true h = refl
    by false h = omega arith

abbrev Here : {X : Type 0} → (X → Bool) → (X → X → Type 0) → Bool → X → List X → List X → Type 0
Here test R b x xs [] = ⊥
Here test R b x xs (y ∷ ys) = MatchBool b (R x y × (ys ≡ xs)) ((y ≡ x) × FirstChanges test R xs ys)

here_first : {X : Type 0} (test : X → Bool) (R : X → X → Type 0) (x : X) (xs ys : List X) → Here test R (test x) x xs ys → FirstChanges test R (x ∷ xs) ys
here_first test R x xs [] h = h
here_first test R x xs (y ∷ ys) h = h

set_changes : {X : Type 0} (test : X → Bool) (R : X → X → Type 0) (xs : List X) (old new : X) → place test xs < length xs → old ≡ get_or xs (place test xs) old → R old new → FirstChanges test R xs (set xs (place test xs) new)
unfolding place
set_changes test R [] old new h e r = absurd (let x : ⊥ = omega arith in x)
set_changes test R (x ∷ xs) old new h e r = here_first test R x xs (set (x ∷ xs) (place test (x ∷ xs)) new) (by (test x) h e (set_changes test R xs old new))
  where
    by : (b : Bool) → cond b 0 (suc (place test xs)) < length (x ∷ xs) → old ≡ get_or (x ∷ xs) (cond b 0 (suc (place test xs))) old → (place test xs < length xs → old ≡ get_or xs (place test xs) old → R old new → FirstChanges test R xs (set xs (place test xs) new)) → Here test R b x xs (set (x ∷ xs) (cond b 0 (suc (place test xs))) new)
    by true h e later = (subst (λ o. R o new) e r, refl)
    by false h e later = (refl, later (omega arith) e r)

none_change : {X : Type 0} (test : X → Bool) (R : X → X → Type 0) (xs : List X) → length xs ≤ place test xs → FirstChanges test R xs xs
unfolding place
none_change test R [] h = tt
none_change test R (x ∷ xs) h = by (test x) h (none_change test R xs)
  where
    by : (b : Bool) → length (x ∷ xs) ≤ cond b 0 (suc (place test xs)) → (length xs ≤ place test xs → FirstChanges test R xs xs) → MatchBool b (R x x × (xs ≡ xs)) ((x ≡ x) × FirstChanges test R xs xs)
    by true h later = absurd (let x : ⊥ = omega arith in x)
    by false h later = (refl, later (omega arith))

-- ---- where `position` finds it

found_place : {X : Type 0} (test : X → Bool) (xs : List X) (i : ℕ) → position test xs ≡ Some i → i ≡ place test xs
found_place test xs i h = by (nat_lt (position_or_len test xs) (length xs)) h ∙ place-is test xs
  where
    by : (b : Bool) → cond b (Some (position_or_len test xs)) None ≡ Some i → i ≡ position_or_len test xs
    by true h = sym (some_is (position_or_len test xs) i h)
    by false h = none_some i h

pub first_changes : {X : Type 0} (test : X → Bool) (R : X → X → Type 0) (xs items : List X) (i : ℕ) (old new : X) → xs ≡ items → position test xs ≡ Some i → i < length xs → old ≡ get_or items i old → R old new → FirstChanges test R xs (set items i new)
first_changes test R xs items i old new same f h e r =
    let at : i ≡ place test xs = found_place test xs i f in
    let there : old ≡ get_or xs i old = e ∙ ap (λ ys. get_or ys i old) (sym same) in
    subst (λ ys. FirstChanges test R xs (set ys i new)) same
    (subst (λ j. FirstChanges test R xs (set xs j new)) (sym at) (set_changes test R xs old new (subst (λ j. j < length xs) at h) (subst (λ j. old ≡ get_or xs j old) at there) r))

pub none_changes : {X : Type 0} (test : X → Bool) (R : X → X → Type 0) (xs : List X) → position test xs ≡ None → FirstChanges test R xs xs
none_changes test R xs h = none_change test R xs (by (nat_lt (position_or_len test xs) (length xs)) refl h)
  where
    by : (b : Bool) → nat_lt (position_or_len test xs) (length xs) ≡ b → cond b (Some (position_or_len test xs)) None ≡ None → length xs ≤ place test xs
    by true e h = none_some (position_or_len test xs) (sym h)
    by false e h = let same = place-is test xs in let far : length xs ≤ position_or_len test xs = grind (arith, nat_tests, e) in omega arith

find_place : {X : Type 0} (test : X → Bool) (xs : List X) (d : X) → place test xs < length xs → find test xs ≡ Some (get_or xs (place test xs) d)
unfolding place
find_place test [] d h = absurd (let x : ⊥ = omega arith in x)
find_place test (x ∷ xs) d h = by (test x) h (find_place test xs d)
  where
    by : (b : Bool) → cond b 0 (suc (place test xs)) < length (x ∷ xs) → (place test xs < length xs → find test xs ≡ Some (get_or xs (place test xs) d)) → cond b (Some x) (find test xs) ≡ Some (get_or (x ∷ xs) (cond b 0 (suc (place test xs))) d)
    by true h later = refl
    by false h later = later (omega arith)

-- what stands there is what is found
pub found_at : {X : Type 0} (test : X → Bool) (xs items : List X) (i : ℕ) (x : X) → xs ≡ items → position test xs ≡ Some i → i < length xs → x ≡ get_or items i x → find test xs ≡ Some x
found_at test xs items i x same f h e =
    let at : i ≡ place test xs = found_place test xs i f in
    let there : x ≡ get_or xs i x = e ∙ ap (λ ys. get_or ys i x) (sym same) in
    let found : find test xs ≡ Some (get_or xs (place test xs) x) = find_place test xs x (subst (λ j. j < length xs) at h) in
    found ∙ ap Some (sym (subst (λ j. x ≡ get_or xs j x) at there))
