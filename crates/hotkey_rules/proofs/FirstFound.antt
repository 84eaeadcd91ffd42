-- The first element that passes a test, and lists whose elements are apart.
use Rattle.std.proofs.Common.{◌≡◌, Bool, true, false, cond, ◌&&◌, List, [], ◌∷◌, get_or, Some, refl}
use Rattle.std.proofs.Common.{ap, sym, ◌∙◌, arith}
use Rattle.std.specs.Prelude.{AllPairs, Contains, slice_get}
use Rattle.std.specs.List.{find, list_all, position_or_len}
use Rattle.std.proofs.lemmas.Bool.{and_parts, false_from_ne_true}
use Rattle.std.proofs.lemmas.List.Elements.{Contains-append_right, All-weaker}
use Rattle.std.proofs.lemmas.List.Folds.{find_at}
use Rattle.std.proofs.lemmas.List.Kept.{AllPairs-cons}
use Rattle.std.proofs.lemmas.List.Sums.{position_or_len_is, AllPass-from_list_all}
use Rattle.std.proofs.lemmas.Option.{slice_get-get_or}

-- ---- what is found

found_or_after : {X : Type 0} (p : X → Bool) (x y : X) (ys : List X) (t : Bool) → p y ≡ t
    → (find p ys ≡ Some x → Contains ys x × (p x ≡ true))
    → cond t (Some y) (find p ys) ≡ Some x → Contains (y ∷ ys) x × (p x ≡ true)
found_or_after p x y ys true passes after e =
    let same : y ≡ x = cc in
    ((0, omega arith, same), sym (ap p same) ∙ passes)
found_or_after p x y ys false passes after e =
    (Contains-append_right (y ∷ []) ys x (after e).0, (after e).1)

-- it is in the list, and passes
pub found_listed : {X : Type 0} (p : X → Bool) (xs : List X) (x : X) → find p xs ≡ Some x
    → Contains xs x × (p x ≡ true)
found_listed p [] x e = absurd cc
found_listed p (y ∷ ys) x e = found_or_after p x y ys (p y) refl (found_listed p ys x) e

-- where no two elements pass, the one that does is found
pub found_alone : {X : Type 0} (p : X → Bool) (xs : List X) (x : X)
    → AllPairs (λ a b. p a ≡ true → p b ≡ true → ⊥) xs → Contains xs x → p x ≡ true
    → find p xs ≡ Some x
found_alone {X = X} p xs x alone listed passes =
    let place : position_or_len p xs ≡ listed.0 =
    position_or_len_is p xs listed.0 x (omega arith)
    (λ k before.
    false_from_ne_true (p (get_or xs k x))
    (λ e. alone k listed.0 x before listed.1 e (ap p listed.2 ∙ passes)))
    (λ within. ap p listed.2 ∙ passes) in
    find_at p xs ∙ ap (slice_get xs) place ∙ slice_get-get_or xs listed.0 x listed.1
    ∙ ap (λ (y : X). Some y) listed.2

-- ---- apart, by a test

abbrev pub pairs_pass : {X : Type 0} → (X → X → Bool) → List X → Bool
pairs_pass t [] = true
pairs_pass t (x ∷ xs) = list_all (t x) xs && pairs_pass t xs

pub apart_by_test : {X : Type 0} (R : X → X → Type 0) (t : X → X → Bool)
    → ((x y : X) → t x y ≡ true → R x y) → (xs : List X) → pairs_pass t xs ≡ true → AllPairs R xs
apart_by_test R t tells [] e = λ i j d lt within. absurd (omega arith)
apart_by_test R t tells (x ∷ xs) e =
    let both = and_parts (list_all (t x) xs) (pairs_pass t xs) e in
    AllPairs-cons R x xs
    (All-weaker (λ y. t x y ≡ true) (R x) (tells x) xs (AllPass-from_list_all (t x) xs both.0))
    (apart_by_test R t tells xs both.1)
