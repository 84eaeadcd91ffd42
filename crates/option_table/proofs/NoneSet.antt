-- Where no option is set, no row has a value.
use Rattle.std.proofs.Common.{◌≡◌, ℕ, zero, suc, true, List, [], ◌∷◌, Option, Some, None}
use Rattle.std.specs.Prelude.{slice_get, is_none}
use Rattle.std.specs.List.{list_all}

pub none_there : (values : List (Option ℕ)) → list_all is_none values ≡ true → (n v : ℕ)
    → slice_get values n ≡ Some (Some v) → ⊥
none_there [] all n v e = cc
none_there (None ∷ rest) all zero v e = cc
none_there (None ∷ rest) all (suc n) v e = none_there rest all n v e
none_there (Some w ∷ rest) all n v e = cc
