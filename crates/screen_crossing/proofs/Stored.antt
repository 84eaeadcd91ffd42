-- Numbers of pixels that are stored in 32 bits count as themselves.
use Rattle.std.proofs.Common.{◌≡◌, ℤ, pos, negsuc, ◌+ℤ◌, ◌-ℤ◌, ◌≤ℤ◌, ap, ◌∙◌, arith, w16, w32, to_z, of_z, FitsSigned}
use Rattle.std.specs.Prelude.{int_div}
use Rattle.std.specs.Int.{int_min, int_max}
use Rattle.std.proofs.lemmas.Int.{ints, to_z-of_z}

abbrev pub stored : ℤ → ℤ
stored z = to_z w32 (of_z w32 z)

abbrev pub stored16 : ℤ → ℤ
stored16 z = to_z w16 (of_z w16 z)

fits_small : (z : ℤ) → negsuc 99999 ≤ℤ z → z ≤ℤ pos 99999 → FitsSigned w32 z
fits_small z low high = search (arith, ints)

pub stored_small : (z : ℤ) → negsuc 99999 ≤ℤ z → z ≤ℤ pos 99999 → stored z ≡ z
stored_small z low high = to_z-of_z w32 z (fits_small z low high)

-- a coordinate that moved
pub moved_small : (x d : ℤ) → negsuc 32767 ≤ℤ x → x ≤ℤ pos 32767 → FitsSigned w16 d → stored (stored x +ℤ stored (stored16 d)) ≡ x +ℤ d
moved_small x d low high fits =
    let least : negsuc 32767 ≤ℤ d = omega (arith, ints) in
    let most : d ≤ℤ pos 32767 = omega (arith, ints) in
    let x_is : stored x ≡ x = stored_small x (omega (arith, ints)) (omega (arith, ints)) in
    let d_is : stored (stored16 d) ≡ d = ap stored (to_z-of_z w16 d fits) ∙ stored_small d (omega (arith, ints)) (omega (arith, ints)) in
    ap (λ (a : ℤ). stored (a +ℤ stored (stored16 d))) x_is ∙ ap (λ (b : ℤ). stored (x +ℤ b)) d_is ∙ stored_small (x +ℤ d) (omega (arith, ints)) (omega (arith, ints))

half_low : (w : ℤ) → pos 1 ≤ℤ w → pos 0 ≤ℤ int_div w (pos 2)
half_low (pos n) h = omega (arith, ints)
half_low (negsuc n) h = absurd (omega (arith, ints))

half_high : (w : ℤ) → pos 1 ≤ℤ w → int_div w (pos 2) ≤ℤ w
half_high (pos n) h = omega (arith, ints)
half_high (negsuc n) h = absurd (omega (arith, ints))

-- a coordinate and half of a size
pub middle_small : (x w : ℤ) → negsuc 32767 ≤ℤ x → pos 1 ≤ℤ w → w ≤ℤ pos 32767 → (x +ℤ w) ≤ℤ pos 32768 → stored (stored x +ℤ stored (int_div (stored w) (pos 2))) ≡ x +ℤ int_div w (pos 2)
middle_small x w low some small upto =
    let least : pos 0 ≤ℤ int_div w (pos 2) = half_low w some in
    let most : int_div w (pos 2) ≤ℤ w = half_high w some in
    let x_is : stored x ≡ x = stored_small x (omega (arith, ints)) (omega (arith, ints)) in
    let w_is : stored w ≡ w = stored_small w (omega (arith, ints)) (omega (arith, ints)) in
    let half_is : stored (int_div w (pos 2)) ≡ int_div w (pos 2) = stored_small (int_div w (pos 2)) (omega (arith, ints)) (omega (arith, ints)) in
    ap (λ (a : ℤ). stored (a +ℤ stored (int_div (stored w) (pos 2)))) x_is ∙ ap (λ (b : ℤ). stored (x +ℤ stored (int_div b (pos 2)))) w_is
    ∙ ap (λ (b : ℤ). stored (x +ℤ b)) half_is ∙ stored_small (x +ℤ int_div w (pos 2)) (omega (arith, ints)) (omega (arith, ints))

-- the nearest of some pixels, with its arguments stored
pub nearest_stored : (at first size r : ℤ) → stored at ≡ at → stored first ≡ first → stored size ≡ size → stored r ≡ r
    → r ≡ int_max (stored first) (int_min (stored at) ((stored first +ℤ stored size) -ℤ pos 1)) → stored r ≡ int_max first (int_min at ((first +ℤ size) -ℤ pos 1))
nearest_stored at first size r at_is first_is size_is r_is value =
    r_is ∙ value ∙ ap (λ (a : ℤ). int_max a (int_min (stored at) ((a +ℤ stored size) -ℤ pos 1))) first_is
    ∙ ap (λ (b : ℤ). int_max first (int_min b ((first +ℤ stored size) -ℤ pos 1))) at_is ∙ ap (λ (n : ℤ). int_max first (int_min at ((first +ℤ n) -ℤ pos 1))) size_is

-- the same, where the last one was stored too
pub nearest_computed : (at first size r last : ℤ) → stored at ≡ at → stored first ≡ first → stored r ≡ r → last ≡ (first +ℤ size) -ℤ pos 1
    → r ≡ int_max (stored first) (int_min (stored at) last) → stored r ≡ int_max first (int_min at ((first +ℤ size) -ℤ pos 1))
nearest_computed at first size r last at_is first_is r_is last_is value =
    r_is ∙ value ∙ ap (λ (a : ℤ). int_max a (int_min (stored at) last)) first_is
    ∙ ap (λ (b : ℤ). int_max first (int_min b last)) at_is ∙ ap (λ (n : ℤ). int_max first (int_min at n)) last_is
