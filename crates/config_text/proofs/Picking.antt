-- Elements that are picked from a list by a key, and found again in the list of those picked by all
-- keys.
use Rattle.std.proofs.Common.{◌≡◌, ℕ, zero, suc, ◌+◌, ◌<◌, ◌≤◌, Bool, true, false, ◌==◌, List, []}
use Rattle.std.proofs.Common.{◌∷◌, ◌++◌, map, Option, Some, None, refl, ap, ◌∙◌, arith, inl, inr}
use Rattle.std.specs.Prelude.{filter}
use Rattle.std.specs.List.{flat_map, filter_map, cons_option, find, list_any, range_with_len}
use Rattle.std.specs.Option.{option_to_list}
use Rattle.std.proofs.lemmas.Bool.{or_right}
use Rattle.std.proofs.lemmas.Bool.Decides.{eqb_tells}
use Rattle.std.proofs.lemmas.List.Folds.{find-append}

-- ---- by numbers of a range

-- two functions that are the same within a range give the same over it
pub map_within : {A : Type 0} (f g : ℕ → A) (from len : ℕ)
    → ((n : ℕ) → from ≤ n → n < from + len → f n ≡ g n)
    → map f (range_with_len from len) ≡ map g (range_with_len from len)
map_within f g from zero h = refl
map_within f g from (suc len) h =
    rw (h from (omega arith) (omega arith))
    (ap (λ t. g from ∷ t)
    (map_within f g (from + 1) len (λ n above below. h n (omega arith) (omega arith))))

pub filter_map_within : {A : Type 0} (f g : ℕ → Option A) (from len : ℕ)
    → ((n : ℕ) → from ≤ n → n < from + len → f n ≡ g n)
    → filter_map f (range_with_len from len) ≡ filter_map g (range_with_len from len)
filter_map_within f g from zero h = refl
filter_map_within f g from (suc len) h =
    rw (h from (omega arith) (omega arith))
    (ap (cons_option (g from))
    (filter_map_within f g (from + 1) len
    (λ n above below. h n (omega arith) (omega arith))))

-- a number of a range is in it
pub any_in_range : (n from len : ℕ) → from ≤ n → n < from + len
    → list_any (λ k. k == n) (range_with_len from len) ≡ true
any_in_range n from zero above below = absurd (omega arith)
any_in_range n from (suc len) above below =
    elim (eqb_tells from n) [
      | inl e ↦ rw (e.0) refl
      | inr e ↦
          or_right (from == n) _ (any_in_range n (from + 1) len (omega (arith, e.1)) (omega arith))
    ]

-- ---- filters

pub filter_inside : {A : Type 0} (p q : A → Bool) → ((x : A) → q x ≡ true → p x ≡ true)
    → (xs : List A) → filter p (filter q xs) ≡ filter q xs
filter_inside p q w [] = refl
filter_inside p q w (x ∷ xs) = grind (arith, w x, filter_inside p q w xs)

pub filter_outside : {A : Type 0} (p q : A → Bool) → ((x : A) → q x ≡ true → p x ≡ false)
    → (xs : List A) → filter p (filter q xs) ≡ []
filter_outside p q w [] = refl
filter_outside p q w (x ∷ xs) = grind (arith, w x, filter_outside p q w xs)

-- ---- the first that passes

-- what another test found doesn't pass
pub find_other : {A : Type 0} (p q : A → Bool) → ((x : A) → q x ≡ true → p x ≡ false)
    → (xs : List A) → find p (option_to_list (find q xs)) ≡ None
find_other p q w [] = refl
find_other p q w (x ∷ xs) = grind (arith, w x, find_other p q w xs)

-- what a test found is found again
pub find_again : {A : Type 0} (p : A → Bool) (xs : List A)
    → find p (option_to_list (find p xs)) ≡ find p xs
find_again p [] = refl
find_again p (x ∷ xs) = grind (arith, find_again p xs)

pub find_nowhere : {K A : Type 0} (p : A → Bool) (g : K → List A) → ((k : K) → find p (g k) ≡ None)
    → (keys : List K) → find p (flat_map g keys) ≡ None
find_nowhere p g h [] = refl
find_nowhere p g h (k ∷ ks) = find-append p (g k) (flat_map g ks) ∙ rw (h k) (find_nowhere p g h ks)

some_among : {K A : Type 0} (p : A → Bool) (g : K → List A) (own : K → Bool) (x : A)
    → ((k : K) → own k ≡ true → find p (g k) ≡ Some x)
    → ((k : K) → own k ≡ false → find p (g k) ≡ None)
    → (keys : List K) → list_any own keys ≡ true → find p (flat_map g keys) ≡ Some x
some_among p g own x here other [] some = absurd cc
some_among p g own x here other (k ∷ ks) some =
    find-append p (g k) (flat_map g ks)
    ∙ grind (arith, here k, other k, some, some_among p g own x here other ks)

-- among lists by key, what the list of its own key has
pub find_among : {K A : Type 0} (p : A → Bool) (g : K → List A) (own : K → Bool) (r : Option A)
    → ((k : K) → own k ≡ true → find p (g k) ≡ r) → ((k : K) → own k ≡ false → find p (g k) ≡ None)
    → (keys : List K) → list_any own keys ≡ true → find p (flat_map g keys) ≡ r
find_among p g own None here other keys some =
    find_nowhere p g (λ k. grind (arith, here k, other k)) keys
find_among p g own (Some x) here other keys some = some_among p g own x here other keys some

kept_by : {A : Type 0} (o : Option A) (xs : List A) → cons_option o xs ≡ option_to_list o ++ xs
kept_by None xs = refl
kept_by (Some x) xs = refl

pub filter_map_flat : {K A : Type 0} (h : K → Option A) (keys : List K)
    → filter_map h keys ≡ flat_map (λ k. option_to_list (h k)) keys
filter_map_flat h [] = refl
filter_map_flat h (k ∷ ks) =
    ap (cons_option (h k)) (filter_map_flat h ks)
    ∙ kept_by (h k) (flat_map (λ k. option_to_list (h k)) ks)
