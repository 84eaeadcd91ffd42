-- A list that goes on from another.
use Rattle.std.proofs.Common.{◌≡◌, ◌≤◌, ◌+◌, ℕ, List, ◌++◌, length, take, refl, sym, ap, ◌∙◌, arith}
use Rattle.std.proofs.lemmas.List.{take-take, take_at, length-append}
use Rattle.share_base.specs.Fronts.{IsFront}

-- what begins with a longer list begins with a front of it
pub front_of_longer : (front more longer whole : List ℕ) → longer ≡ front ++ more
    → IsFront longer whole → IsFront front whole
front_of_longer front more longer whole is begins =
    let few : length front ≤ length longer =
    omega (arith, ap length is, length-append front more) in
    sym (take-take (length front) (length longer) whole few)
    ∙ ap (take (length front)) (begins ∙ is) ∙ take_at front more (length front) refl
