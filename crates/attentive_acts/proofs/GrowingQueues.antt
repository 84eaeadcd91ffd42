-- Fronts of bytes that go on.
use Rattle.std.specs.Prelude.{◌≡◌, ℕ, ◌+◌, ◌≤◌, List, ◌++◌, length, take, drop}
use Rattle.std.proofs.Common.{arith, ap, sym, ◌∙◌}
use Rattle.std.proofs.lemmas.List.{take-append-le, take-take, length-take, length-append}
use Rattle.std.proofs.Math.Seq.{take-add}
use Rattle.share_base.specs.Fronts.{IsFront}

pub front-fits : (front whole : List ℕ) → IsFront front whole → length front ≤ length whole
front-fits front whole h = omega (arith, ap length h, length-take (length front) whole)

-- a front of a list is a front of one that goes on
pub front-grows : (front whole more : List ℕ) → IsFront front whole → IsFront front (whole ++ more)
front-grows front whole more h = let fits : length front ≤ length whole = front-fits front whole h in take-append-le (length front) whole more fits ∙ h

-- bytes that follow a front make a longer front
pub front-more : (front whole bytes : List ℕ) (n : ℕ) → IsFront front whole → bytes ≡ take (length bytes) (drop (length front) whole) → n ≤ length bytes → IsFront (front ++ take n bytes) whole
front-more front whole bytes n h e le =
    let long : length (take n bytes) ≡ n = omega (arith, length-take n bytes) in
    let part : take n bytes ≡ take n (drop (length front) whole) = ap (take n) e ∙ take-take n (length bytes) (drop (length front) whole) le in
    let size : length (front ++ take n bytes) ≡ length front + n = length-append front (take n bytes) ∙ ap (λ (m : ℕ). length front + m) long in
    ap (λ (m : ℕ). take m whole) size ∙ take-add (length front) n whole ∙ ap (λ (xs : List ℕ). xs ++ take n (drop (length front) whole)) h ∙ ap (λ (xs : List ℕ). front ++ xs) (sym part)
