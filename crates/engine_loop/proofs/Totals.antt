-- How many bytes were queued in all only grows.
use Rattle.std.specs.Prelude.{◌≡◌, refl, ℕ, ◌+◌, ◌≤◌, Bool, true, false, cond, List, [], ◌∷◌, ◌++◌, length, take, drop, sum_by}
use Rattle.std.proofs.Common.{arith, ap, sym, subst, ◌∙◌}
use Rattle.std.proofs.lemmas.List.Elements.{filter-append}
use Rattle.std.proofs.lemmas.List.Sums.{sum_by-append}
use Rattle.std.proofs.lemmas.Grind.{common_steps}
use Rattle.machine.specs.Targets.{Entry, Client, same_target}
use Rattle.machine.specs.States.{State}
use Rattle.machine.specs.Queues.{entries_for, size, fits, fitting, total}

fitting_goes_on : (before : ℕ) (xs ys : List Entry) → (zs : List Entry) × (fitting before (xs ++ ys) ≡ fitting before xs ++ zs)
fitting_goes_on before [] ys = (fitting before ys, refl)
fitting_goes_on before (e ∷ xs) ys = by (fits before e) (fitting_goes_on (before + size e) xs ys)
  where
    by : (b : Bool) → ((zs : List Entry) × (fitting (before + size e) (xs ++ ys) ≡ fitting (before + size e) xs ++ zs))
        → (zs : List Entry) × (cond b (e ∷ fitting (before + size e) (xs ++ ys)) [] ≡ cond b (e ∷ fitting (before + size e) xs) [] ++ zs)
    by true rest = (rest.0, ap (λ (es : List Entry). e ∷ es) rest.1)
    by false rest = ([], refl)

total_more : (xs ys : List Entry) (c : ℕ) → total xs c ≤ total (xs ++ ys) c
total_more xs ys c =
    let split : entries_for (Client c) (xs ++ ys) ≡ entries_for (Client c) xs ++ entries_for (Client c) ys = filter-append (λ (e : Entry). same_target e.target (Client c)) xs ys in
    let g = fitting_goes_on 0 (entries_for (Client c) xs) (entries_for (Client c) ys) in
    let sum : total (xs ++ ys) c ≡ total xs c + sum_by size g.0 = ap (λ (es : List Entry). sum_by size (fitting 0 es)) split ∙ ap (sum_by size) g.1 ∙ sum_by-append size (fitting 0 (entries_for (Client c) xs)) g.0 in
    omega (arith, sum)

whole : (xs zs : List Entry) → take (length xs) zs ≡ xs → zs ≡ xs ++ drop (length xs) zs
whole xs zs e = grind (arith, common_steps, e)

pub total-grows : (s next : State) → take (length s.routed) next.routed ≡ s.routed → (c : ℕ) → total s.routed c ≤ total next.routed c
total-grows s next e c = subst (λ (es : List Entry). total s.routed c ≤ total es c) (sym (whole s.routed next.routed e)) (total_more s.routed (drop (length s.routed) next.routed) c)
