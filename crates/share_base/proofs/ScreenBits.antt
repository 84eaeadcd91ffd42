-- One bit of the number that stands for a set of screens.
use Rattle.std.proofs.Common.{◌≡◌, ℕ, ◌*◌, ◌/◌, ◌%◌, ◌^◌, ◌<◌, Bool, false, min, eqb, ◌||◌, ◌&&◌}
use Rattle.std.proofs.Common.{not, sym, ap, ◌∙◌, arith, subst, inl, inr, w64, bit_and, bit_or}
use Rattle.std.specs.Int.{bit_at, bit_not}
use Rattle.std.proofs.Math.Bool.{or-true, or-false, and-true, and-false}
use Rattle.std.proofs.lemmas.Bool.{cases_lt}
use Rattle.std.proofs.lemmas.Bool.Decides.{eqb_tells}
use Rattle.std.proofs.lemmas.Nat.Bits.{bit_at-zero, bit_at_set_same, bit_at_set_other}
use Rattle.std.proofs.lemmas.Nat.Bits.{bit_at_clear_same, bit_at_clear_other, bit_at_and}
use Rattle.std.proofs.lemmas.Nat.Bits.{bit_at_above, shr_and_one}
use Rattle.share_base.specs.Screens.{has}

pub has-none : (k : ℕ) → has 0 k ≡ false
unfolding has
has-none k = ap (λ (n : ℕ). eqb n 1) (bit_at-zero k)

pub has-bit : (set screen : ℕ) → eqb (bit_and (set / 2 ^ screen) 1) 1 ≡ has set screen
unfolding has
has-bit set screen = ap (λ (n : ℕ). eqb n 1) (shr_and_one set screen)

pub has-set : (set screen : ℕ) → screen < 64 → (k : ℕ)
    → has (bit_or set (1 * 2 ^ screen % 2 ^ 64)) k ≡ (has set k || eqb k screen)
unfolding has
has-set set screen lt k =
    elim (eqb_tells k screen) [
      | inl h ↦
          ap (λ (n : ℕ). eqb n 1)
          (subst (λ (j : ℕ). bit_at (bit_or set (1 * 2 ^ screen % 2 ^ 64)) j ≡ 1) (sym h.1)
          (bit_at_set_same w64 set screen lt))
          ∙ sym (or-true (has set k)) ∙ ap (λ (b : Bool). has set k || b) (sym h.0)
      | inr h ↦
          ap (λ (n : ℕ). eqb n 1) (bit_at_set_other w64 set screen lt k h.1)
          ∙ sym (or-false (has set k)) ∙ ap (λ (b : Bool). has set k || b) (sym h.0)
    ]

-- a bit beside the cleared one stays, also one past the width
other_bit : (set screen : ℕ) → set < 2 ^ 64 → screen < 64 → (k : ℕ) → (k ≡ screen → ⊥)
    → bit_at (bit_and set (bit_not w64 (1 * 2 ^ screen % 2 ^ 64))) k ≡ bit_at set k
other_bit set screen small lt k ne =
    elim (cases_lt k 64) [
      | inl below ↦ bit_at_clear_other w64 set screen lt k below ne
      | inr above ↦
          let none : bit_at set k ≡ 0 = bit_at_above set 64 k small above in
          bit_at_and set (bit_not w64 (1 * 2 ^ screen % 2 ^ 64)) k
          ∙ ap (λ (n : ℕ). min n (bit_at (bit_not w64 (1 * 2 ^ screen % 2 ^ 64)) k)) none
          ∙ omega arith ∙ sym none
    ]

pub has-clear : (set screen : ℕ) → set < 2 ^ 64 → screen < 64 → (k : ℕ)
    → has (bit_and set (bit_not w64 (1 * 2 ^ screen % 2 ^ 64))) k
    ≡ (has set k && not (eqb k screen))
unfolding has
has-clear set screen small lt k =
    elim (eqb_tells k screen) [
      | inl h ↦
          ap (λ (n : ℕ). eqb n 1)
          (subst
          (λ (j : ℕ). bit_at (bit_and set (bit_not w64 (1 * 2 ^ screen % 2 ^ 64))) j
          ≡ 0)
          (sym h.1) (bit_at_clear_same w64 set screen lt))
          ∙ sym (and-false (has set k)) ∙ ap (λ (b : Bool). has set k && not b) (sym h.0)
      | inr h ↦
          ap (λ (n : ℕ). eqb n 1) (other_bit set screen small lt k h.1) ∙ sym (and-true (has set k))
          ∙ ap (λ (b : Bool). has set k && not b) (sym h.0)
    ]
