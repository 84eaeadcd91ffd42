-- Places along a side, and what comes of them.
use Rattle.std.proofs.Common.{◌≡◌, ℕ, ◌+◌, ◌-◌, ◌*◌, ◌/◌, ◌<◌, ◌≤◌, arith}
use Rattle.std.proofs.Math.Nat.{div-lt_iff_lt-mul, mul-lt-mul_of_pos_right, mul_comm}
use Rattle.std.proofs.Math.Nat.{div-mul-le_self, lt-div-mul-add}
use Rattle.screen_links.specs.Places.{place_of, pixel_of}

-- a part of one range is less than the same part of the other
along_lt : (x m n : ℕ) → 0 < n → 0 < m → x < 10000 * n → x * m / n < 10000 * m
along_lt x m n n_pos m_pos lt =
    let scaled : x * m < 10000 * n * m = mul-lt-mul_of_pos_right lt m_pos in
    let turned : n * m ≡ m * n = mul_comm n m in
    (div-lt_iff_lt-mul n_pos).1 (grind arith)

pub landing_lt : (a b c d t : ℕ) → a < b → c < d → d ≤ 100 → 10000 * a ≤ t → t < 10000 * b
    → 10000 * c + (t - 10000 * a) * (d - c) / (b - a) < 1000000
landing_lt a b c d t some onto_some onto_within from_start before_end =
    let part : (t - 10000 * a) * (d - c) / (b - a) < 10000 * (d - c) =
    along_lt (t - 10000 * a) (d - c) (b - a) (omega arith) (omega arith) (omega arith) in
    omega arith

-- ---- places of pixels

pub pixel-place : (p n : ℕ) → p < n → n ≤ 32767 → pixel_of (place_of p n) n ≡ p
pixel-place p n lt small =
    let q : ℕ = (2 * p + 1) * 1000000 / (2 * n) in
    let below : q * (2 * n) ≤ (2 * p + 1) * 1000000 =
    div-mul-le_self ((2 * p + 1) * 1000000) (2 * n) in
    let above : (2 * p + 1) * 1000000 < q * (2 * n) + 2 * n =
    lt-div-mul-add {a = (2 * p + 1) * 1000000} {b = 2 * n} (omega arith) in
    let twice : q * (2 * n) ≡ 2 * (q * n) = grind arith in
    omega arith
