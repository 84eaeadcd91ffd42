-- Tables in which one entry is set.
use Rattle.std.proofs.Common.{◌≡◌, ℕ, ◌<◌, ◌≢◌, Bool, true, false, ◌⊎◌, inl, inr, List, length, Some, replicate, refl, sym, ap, ◌∙◌, arith}
use Rattle.std.specs.Prelude.{slice_get, slice_set, nat_eq}
use Rattle.std.proofs.lemmas.List.{length-replicate, length-set, get_or-set_same, get_or-set_other, get_or-replicate}
use Rattle.std.proofs.lemmas.Option.{slice_get-get_or}
use Rattle.std.proofs.lemmas.Bool.Decides.{nat_tests}
use Rattle.pressed_inputs.specs.Tables.{Tabulates}

-- each entry is the same
pub fresh : (A : Type 0) (count : ℕ) (x : A) (entry : ℕ → A) → count ≡ 256 → ((n : ℕ) → entry n ≡ x) → Tabulates A (replicate count x) entry
fresh A count x entry e same = record {
  long = length-replicate count x ∙ e;
  each = λ n lt. slice_get-get_or (replicate count x) n x (omega (arith, length-replicate count x)) ∙ ap (λ (a : A). Some a) (get_or-replicate count n x x (omega arith) ∙ sym (same n));
}

set_same : (A : Type 0) (table : List A) (k : ℕ) (v : A) → k < length table → slice_get (slice_set table k v) k ≡ Some v
set_same A table k v lt =
    slice_get-get_or (slice_set table k v) k v (omega (arith, length-set table k v)) ∙ ap (λ (a : A). Some a) (get_or-set_same table k v v lt)

set_other : (A : Type 0) (table : List A) (k n : ℕ) (v : A) → n < length table → n ≢ k → slice_get (slice_set table k v) n ≡ slice_get table n
set_other A table k n v lt ne =
    slice_get-get_or (slice_set table k v) n v (omega (arith, length-set table k v)) ∙ ap (λ (a : A). Some a) (get_or-set_other table k n v v ne)
    ∙ sym (slice_get-get_or table n v lt)

either : (n k : ℕ) → (n ≡ k) ⊎ (n ≢ k)
either n k = by (nat_eq n k) refl
  where
    by : (b : Bool) → nat_eq n k ≡ b → (n ≡ k) ⊎ (n ≢ k)
    by true e = inl (grind (arith, nat_tests))
    by false e = inr (grind (arith, nat_tests))

-- the entry of a number is another one, and the others stay
pub with_entry : (A : Type 0) (table : List A) (old new : ℕ → A) (k : ℕ) (v : A) → k < 256 → Tabulates A table old → new k ≡ v → ((n : ℕ) → n ≢ k → new n ≡ old n) → Tabulates A (slice_set table k v) new
with_entry A table old new k v lt t here others = record {
  long = length-set table k v ∙ t.long;
  each = λ n below. entry n below (either n k);
}
  where
    entry : (n : ℕ) → n < 256 → (n ≡ k) ⊎ (n ≢ k) → slice_get (slice_set table k v) n ≡ Some (new n)
    entry n below (inl e) =
        ap (slice_get (slice_set table k v)) e ∙ set_same A table k v (omega (arith, t.long)) ∙ ap (λ (a : A). Some a) (sym here ∙ ap new (sym e))
    entry n below (inr ne) =
        set_other A table k n v (omega (arith, t.long)) ne ∙ t.each n below ∙ ap (λ (a : A). Some a) (sym (others n ne))

-- another function with the same values
pub with_entries : (A : Type 0) (table : List A) (old new : ℕ → A) → Tabulates A table old → ((n : ℕ) → new n ≡ old n) → Tabulates A table new
with_entries A table old new t same = record { long = t.long; each = λ n below. t.each n below ∙ ap (λ (a : A). Some a) (sym (same n)) }
