-- Coordinates of pixels as messages have them.
use Rattle.std.proofs.Common.{◌≡◌, ℤ, pos, negsuc, ◌≤ℤ◌, ap, subst, ◌∙◌, arith, w16, w32, to_z, of_z, FitsSigned}
use Rattle.std.proofs.lemmas.Int.{ints, to_z-of_z}

fits_two : (z : ℤ) → negsuc 32767 ≤ℤ z → z ≤ℤ pos 32767 → FitsSigned w16 z
fits_two z low high = search (arith, ints)

fits_four : (z : ℤ) → negsuc 32767 ≤ℤ z → z ≤ℤ pos 32767 → FitsSigned w32 z
fits_four z low high = search (arith, ints)

-- those of four bytes count as themselves in two
pub as_sent : (z : ℤ) → negsuc 32767 ≤ℤ z → z ≤ℤ pos 32767 → to_z w16 (of_z w16 (to_z w32 (of_z w32 z))) ≡ z
as_sent z low high = ap (λ (y : ℤ). to_z w16 (of_z w16 y)) (to_z-of_z w32 z (fits_four z low high)) ∙ to_z-of_z w16 z (fits_two z low high)

-- what holds of two numbers of two bytes as they are passed on holds of themselves
pub as_passed : (P : ℤ → ℤ → Type 0) (x y : ℤ) → FitsSigned w16 x → FitsSigned w16 y → P (to_z w16 (of_z w16 x)) (to_z w16 (of_z w16 y)) → P x y
as_passed P x y x_fits y_fits h = subst (λ (a : ℤ). P a y) (to_z-of_z w16 x x_fits) (subst (λ (b : ℤ). P (to_z w16 (of_z w16 x)) b) (to_z-of_z w16 y y_fits) h)
