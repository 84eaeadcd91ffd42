-- Pixels counted with signed 32-bit numbers.
use Rattle.std.proofs.Common.{◌≡◌, ℕ, ℤ, pos, negsuc, ◌+ℤ◌, ◌-ℤ◌, ◌<ℤ◌, ◌≤ℤ◌, ap, ◌∙◌, arith, w32}
use Rattle.std.proofs.Common.{to_z, of_z, FitsSigned}
use Rattle.std.specs.Prelude.{unsigned_abs}
use Rattle.std.specs.Int.{int_min, int_max}
use Rattle.std.proofs.lemmas.Int.{ints, to_z-of_z}
use Rattle.edge_cross.specs.Edges.{along}

-- a number after it was stored in 32 bits
abbrev pub stored : ℤ → ℤ
stored z = to_z w32 (of_z w32 z)

fits_small : (z : ℤ) → negsuc 99999 ≤ℤ z → z ≤ℤ pos 99999 → FitsSigned w32 z
fits_small z low high = search (arith, ints)

stored_small : (z : ℤ) → negsuc 99999 ≤ℤ z → z ≤ℤ pos 99999 → stored z ≡ z
stored_small z low high = to_z-of_z w32 z (fits_small z low high)

counted : (d : ℤ) → pos 0 ≤ℤ d → pos (unsigned_abs d) ≡ d
counted d some = omega (arith, ints)

pub difference : (r first : ℤ) → stored r ≡ r → stored first ≡ first → first ≤ℤ r
    → (r -ℤ first) ≤ℤ pos 99999
    → pos (unsigned_abs (stored (stored r -ℤ stored first))) ≡ r -ℤ first
difference r first r_is first_is low high =
    let parts : stored r -ℤ stored first ≡ r -ℤ first =
    ap (λ (a : ℤ). a -ℤ stored first) r_is ∙ ap (λ (b : ℤ). r -ℤ b) first_is in
    ap (λ (d : ℤ). pos (unsigned_abs d))
    (ap stored parts ∙ stored_small (r -ℤ first) (omega (arith, ints)) high)
    ∙ counted (r -ℤ first) (omega (arith, ints))

pub last_pixel : (first size : ℤ) → stored first ≡ first → stored size ≡ size
    → negsuc 32767 ≤ℤ first → pos 1 ≤ℤ size → (first +ℤ size) ≤ℤ pos 32768
    → stored (stored (stored first +ℤ stored size) -ℤ pos 1) ≡ (first +ℤ size) -ℤ pos 1
last_pixel first size first_is size_is from some upto =
    let sum : stored first +ℤ stored size ≡ first +ℤ size =
    ap (λ (a : ℤ). a +ℤ stored size) first_is ∙ ap (λ (b : ℤ). first +ℤ b) size_is in
    let whole : stored (stored first +ℤ stored size) ≡ first +ℤ size =
    ap stored sum ∙ stored_small (first +ℤ size) (omega (arith, ints)) (omega (arith, ints)) in
    ap (λ (d : ℤ). stored (d -ℤ pos 1)) whole
    ∙ stored_small ((first +ℤ size) -ℤ pos 1) (omega (arith, ints)) (omega (arith, ints))

within : (r first size d : ℤ) → d ≡ r -ℤ first → r ≤ℤ ((first +ℤ size) -ℤ pos 1) → d <ℤ size
within r first size d d_is high = omega (arith, ints)

-- the nearest pixel as it is computed, counted from the first one
pub counted_from : (at first size r : ℤ) → stored at ≡ at → stored first ≡ first
    → stored size ≡ size → stored r ≡ r → negsuc 32767 ≤ℤ first → pos 1 ≤ℤ size → size ≤ℤ pos 32767
    → (first +ℤ size) ≤ℤ pos 32768
    → r
    ≡ int_max (stored first)
    (int_min (stored at) (stored (stored (stored first +ℤ stored size) -ℤ pos 1)))
    → stored first ≤ℤ r → r ≤ℤ stored (stored (stored first +ℤ stored size) -ℤ pos 1)
    → (pos (unsigned_abs (stored (stored r -ℤ stored first))) ≡ along at first size)
    × (pos (unsigned_abs (stored (stored r -ℤ stored first))) <ℤ size)
counted_from at first size r at_is first_is size_is r_is from some small upto value low high =
    let last_is : stored (stored (stored first +ℤ stored size) -ℤ pos 1)
    ≡ (first +ℤ size) -ℤ pos 1 =
    last_pixel first size first_is size_is from some upto in
    let nearest : r ≡ int_max first (int_min at ((first +ℤ size) -ℤ pos 1)) =
    value
    ∙ ap
    (λ (a : ℤ).
    int_max a
    (int_min (stored at) (stored (stored (stored first +ℤ stored size) -ℤ pos 1))))
    first_is
    ∙ ap
    (λ (b : ℤ).
    int_max first (int_min b (stored (stored (stored first +ℤ stored size) -ℤ pos 1))))
    at_is
    ∙ ap (λ (t : ℤ). int_max first (int_min at t)) last_is in
    let low' : first ≤ℤ r = rw (← first_is) low in
    let high' : r ≤ℤ ((first +ℤ size) -ℤ pos 1) = rw (← last_is) high in
    let apart : pos (unsigned_abs (stored (stored r -ℤ stored first))) ≡ r -ℤ first =
    difference r first r_is first_is low' (omega (arith, ints)) in
    (apart ∙ ap (λ (v : ℤ). v -ℤ first) nearest, within r first size _ apart high')

-- stored arguments count as themselves
pub along_stored : (at first size : ℤ) (p : ℕ) → stored at ≡ at → stored first ≡ first
    → stored size ≡ size → pos p ≡ along (stored at) (stored first) (stored size)
    → pos p ≡ along at first size
along_stored at first size p at_is first_is size_is value =
    value ∙ ap (λ (a : ℤ). along a (stored first) (stored size)) at_is
    ∙ ap (λ (b : ℤ). along at b (stored size)) first_is
    ∙ ap (λ (n : ℤ). along at first n) size_is
