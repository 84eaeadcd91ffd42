-- Tests that all elements of a list pass, or none.
use Rattle.std.proofs.Common.{◌+◌, ◌≤◌, cond, nat_lt, ◌≡◌, ℕ, zero, suc, Bool, true, false, not}
use Rattle.std.proofs.Common.{List, [], ◌∷◌, ◌++◌, length, Some, None, refl, ap, sym, ◌∙◌, arith}
use Rattle.std.specs.Prelude.{slice_get}
use Rattle.std.specs.List.{list_all, list_any, position, prefix_len, find}
use Rattle.std.proofs.lemmas.Bool.{and_parts, and_from, le-ltb, ltb-false, not-true, not_from_false}
use Rattle.std.proofs.lemmas.Bool.{or_parts, or_from}
use Rattle.std.proofs.lemmas.List.Folds.{list_all-append}

pub all_weaker : {A : Type 0} (p q : A → Bool) → ((x : A) → p x ≡ true → q x ≡ true) → (xs : List A)
    → list_all p xs ≡ true → list_all q xs ≡ true
all_weaker p q w [] h = refl
all_weaker p q w (x ∷ xs) h =
    let e = and_parts (p x) (list_all p xs) h in
    rw (w x e.0) (all_weaker p q w xs e.1)

pub all_where_each : {A : Type 0} (p : A → Bool) → ((x : A) → p x ≡ true) → (xs : List A)
    → list_all p xs ≡ true
all_where_each p h [] = refl
all_where_each p h (x ∷ xs) = and_from (p x) (list_all p xs) (h x) (all_where_each p h xs)

pub all_at : {A : Type 0} (p : A → Bool) (xs : List A) (n : ℕ) (x : A) → list_all p xs ≡ true
    → slice_get xs n ≡ Some x → p x ≡ true
all_at p [] n x h e = absurd cc
all_at p (y ∷ ys) zero x h e =
    let same : y ≡ x = cc in ap p (sym same) ∙ (and_parts (p y) (list_all p ys) h).0
all_at p (y ∷ ys) (suc n) x h e = all_at p ys n x (and_parts (p y) (list_all p ys) h).1 e

pub all_append : {A : Type 0} (p : A → Bool) (xs ys : List A) → list_all p xs ≡ true
    → list_all p ys ≡ true → list_all p (xs ++ ys) ≡ true
all_append p xs ys h k = list_all-append p xs ys ∙ and_from (list_all p xs) (list_all p ys) h k

pub all_parts : {A : Type 0} (p : A → Bool) (xs ys : List A) → list_all p (xs ++ ys) ≡ true
    → (list_all p xs ≡ true) × (list_all p ys ≡ true)
all_parts p xs ys h = and_parts (list_all p xs) (list_all p ys) (sym (list_all-append p xs ys) ∙ h)

-- no element passes, said in four ways
pub any_none : {A : Type 0} (p : A → Bool) (xs : List A) → list_all (λ x. not (p x)) xs ≡ true
    → list_any p xs ≡ false
any_none p [] h = refl
any_none p (x ∷ xs) h =
    let e = and_parts (not (p x)) (list_all (λ y. not (p y)) xs) h in
    or_from (p x) (list_any p xs) (not-true (p x) e.0) (any_none p xs e.1)

pub none_of_any : {A : Type 0} (p : A → Bool) (xs : List A) → list_any p xs ≡ false
    → list_all (λ x. not (p x)) xs ≡ true
none_of_any p [] h = refl
none_of_any p (x ∷ xs) h =
    let e = or_parts (p x) (list_any p xs) h in
    and_from (not (p x)) (list_all (λ y. not (p y)) xs) (not_from_false (p x) e.0)
    (none_of_any p xs e.1)

find_by : {A : Type 0} (t : Bool) (p : A → Bool) (x : A) (xs : List A) → p x ≡ t
    → (find p xs ≡ None → list_all (λ y. not (p y)) xs ≡ true) → cond t (Some x) (find p xs) ≡ None
    → list_all (λ y. not (p y)) (x ∷ xs) ≡ true
find_by true p x xs e rest h = absurd cc
find_by false p x xs e rest h =
    and_from (not (p x)) (list_all (λ y. not (p y)) xs) (not_from_false (p x) e) (rest h)

pub none_of_find : {A : Type 0} (p : A → Bool) (xs : List A) → find p xs ≡ None
    → list_all (λ x. not (p x)) xs ≡ true
none_of_find p [] h = refl
none_of_find p (x ∷ xs) h = find_by (p x) p x xs refl (none_of_find p xs) h

pub find_none : {A : Type 0} (p : A → Bool) (xs : List A) → list_all (λ x. not (p x)) xs ≡ true
    → find p xs ≡ None
find_none p [] h = refl
find_none p (x ∷ xs) h =
    let e = and_parts (not (p x)) (list_all (λ y. not (p y)) xs) h in
    rw (not-true (p x) e.0) (find_none p xs e.1)

prefix_whole : {A : Type 0} (p : A → Bool) (xs : List A) → list_all p xs ≡ true
    → prefix_len p xs ≡ length xs
prefix_whole p [] h = refl
prefix_whole p (x ∷ xs) h =
    let e = and_parts (p x) (list_all p xs) h in
    rw (e.0) (omega (arith, prefix_whole p xs e.1))

pub position_none : {A : Type 0} (p : A → Bool) (xs : List A) → list_all (λ x. not (p x)) xs ≡ true
    → position p xs ≡ None
position_none p xs h =
    let e : prefix_len (λ x. not (p x)) xs ≡ length xs = prefix_whole (λ x. not (p x)) xs h in
    rw (le-ltb (prefix_len (λ x. not (p x)) xs) (length xs) (omega arith)) refl

whole_by : {A : Type 0} (t : Bool) (p : A → Bool) (x : A) (xs : List A) → p x ≡ t
    → (length xs ≤ prefix_len p xs → list_all p xs ≡ true)
    → length (x ∷ xs) ≤ cond t (1 + prefix_len p xs) 0
    → list_all p (x ∷ xs) ≡ true
whole_by true p x xs e rest h = and_from (p x) (list_all p xs) e (rest (omega arith))
whole_by false p x xs e rest h = absurd (omega arith)

all_of_prefix : {A : Type 0} (p : A → Bool) (xs : List A) → length xs ≤ prefix_len p xs
    → list_all p xs ≡ true
all_of_prefix p [] h = refl
all_of_prefix p (x ∷ xs) h = whole_by (p x) p x xs refl (all_of_prefix p xs) h

far : (b : Bool) (n : ℕ) → cond b (Some n) None ≡ None → b ≡ false
far true n e = absurd cc
far false n e = refl

pub none_of_position : {A : Type 0} (p : A → Bool) (xs : List A) → position p xs ≡ None
    → list_all (λ x. not (p x)) xs ≡ true
none_of_position p xs h =
    let past =
    far (nat_lt (prefix_len (λ x. not (p x)) xs) (length xs)) (prefix_len (λ x. not (p x)) xs) h
    in
    all_of_prefix (λ x. not (p x)) xs (ltb-false _ _ past)

-- ---- what was found

found_by : {A : Type 0} (t : Bool) (p : A → Bool) (y : A) (ys : List A) (x : A) → p y ≡ t
    → (find p ys ≡ Some x → p x ≡ true) → cond t (Some y) (find p ys) ≡ Some x → p x ≡ true
found_by true p y ys x e go h = let same : y ≡ x = cc in ap p (sym same) ∙ e
found_by false p y ys x e go h = go h

-- what was found passes the test
pub found_passes : {A : Type 0} (p : A → Bool) (xs : List A) (x : A) → find p xs ≡ Some x
    → p x ≡ true
found_passes p [] x h = absurd cc
found_passes p (y ∷ ys) x h = found_by (p y) p y ys x refl (found_passes p ys x) h
