-- The open connections, and their serials.
use Rattle.std.specs.Prelude.{◌≡◌, refl, ℕ, ◌<◌, Bool, true, false, cond, ◌⊎◌, List, [], ◌∷◌, Contains, slice_index_or, Some, is_some}
use Rattle.std.proofs.Common.{arith, inl, inr, subst}
use Rattle.std.proofs.lemmas.Bool.Decides.{nat_tests}
use Rattle.std.proofs.lemmas.List.Elements.{Contains-append_right, Contains-append_cases}
use Rattle.machine.specs.Connections.{Connection, serials, with_serial, has_serial}

contains_first : (x y : ℕ) (xs : List ℕ) → x ≡ y → Contains (x ∷ xs) y
contains_first x y xs e = (0, omega arith, e)

pub open-listed : (serial : ℕ) (cs : List Connection) → is_some (with_serial serial cs) ≡ true → Contains (serials cs) serial
open-listed serial [] h = absurd (let x : ⊥ = cc in x)
open-listed serial (c ∷ cs) h = by (has_serial serial c) refl h (open-listed serial cs)
  where
    by : (b : Bool) → has_serial serial c ≡ b → is_some (cond b (Some c) (with_serial serial cs)) ≡ true → (is_some (with_serial serial cs) ≡ true → Contains (serials cs) serial) → Contains (c.serial ∷ serials cs) serial
    by true e k later = contains_first c.serial serial (serials cs) (grind (arith, nat_tests, e))
    by false e k later = Contains-append_right (c.serial ∷ []) (serials cs) serial (later k)

none_in : (x : ℕ) → Contains [] x → ⊥
none_in x h = let lt : h.0 < 0 = h.1 in absurd (omega (arith, lt))

pub listed-open : (serial : ℕ) (cs : List Connection) → Contains (serials cs) serial → is_some (with_serial serial cs) ≡ true
listed-open serial [] h = absurd (none_in serial h)
listed-open serial (c ∷ cs) h = by (has_serial serial c) refl (Contains-append_cases (c.serial ∷ []) (serials cs) serial h) (listed-open serial cs)
  where
    first : Contains (c.serial ∷ []) serial → c.serial ≡ serial
    first k = at k.0 k.1 k.2
      where
        at : (i : ℕ) → i < 1 → slice_index_or (c.serial ∷ []) i serial ≡ serial → c.serial ≡ serial
        at i lt e = let zero_is : i ≡ 0 = omega (arith, lt) in subst (λ (n : ℕ). slice_index_or (c.serial ∷ []) n serial ≡ serial) zero_is e

    by : (b : Bool) → has_serial serial c ≡ b → Contains (c.serial ∷ []) serial ⊎ Contains (serials cs) serial → (Contains (serials cs) serial → is_some (with_serial serial cs) ≡ true) → is_some (cond b (Some c) (with_serial serial cs)) ≡ true
    by true e k later = refl
    by false e k later = elim k [
      | inl one ↦ absurd (let is = first one in let x : ⊥ = grind (arith, nat_tests, e, is) in x)
      | inr more ↦ later more
    ]
