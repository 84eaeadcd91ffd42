-- Lists in which no number stands twice.
use Rattle.std.proofs.Common.{ℕ, zero, suc, ◌<◌, List, ◌∷◌, length, get_or, arith}
use Rattle.std.specs.Prelude.{◌≢◌, All}
use Rattle.screen_links.specs.Walks.{AreDistinct}

pub distinct_head : (x : ℕ) (xs : List ℕ) → AreDistinct (x ∷ xs) → All (λ y. x ≢ y) xs
distinct_head x xs h = λ k d lt. h zero (suc k) d (omega arith) (omega arith)

pub distinct_tail : (x : ℕ) (xs : List ℕ) → AreDistinct (x ∷ xs) → AreDistinct xs
distinct_tail x xs h = λ i j d lt within. h (suc i) (suc j) d (omega arith) (omega arith)

pair_of : (x : ℕ) (xs : List ℕ) → All (λ y. x ≢ y) xs → AreDistinct xs → (i j d : ℕ) → i < j
    → j < length (x ∷ xs) → get_or (x ∷ xs) i d ≢ get_or (x ∷ xs) j d
pair_of x xs head tail zero zero d lt within = absurd (omega arith)
pair_of x xs head tail zero (suc j) d lt within = head j d (omega arith)
pair_of x xs head tail (suc i) zero d lt within = absurd (omega arith)
pair_of x xs head tail (suc i) (suc j) d lt within = tail i j d (omega arith) (omega arith)

pub distinct_cons : (x : ℕ) (xs : List ℕ) → All (λ y. x ≢ y) xs → AreDistinct xs
    → AreDistinct (x ∷ xs)
distinct_cons x xs head tail = pair_of x xs head tail
