-- What is found in a list.
use Rattle.std.specs.Prelude.{◌≡◌, Bool, true, false, ◌||◌, cond, List, [], ◌∷◌, Option, Some, None, unwrap_or}
use Rattle.std.specs.List.{list_any, find}
use Rattle.std.proofs.Common.{arith, sym, ap, subst}

pub none_some : {A X : Type 0} (x : X) → None ≡ Some x → A
none_some x h = grind (arith, h)

pub some_is : {X : Type 0} (x y : X) → Some x ≡ Some y → x ≡ y
some_is x y h = ap (λ (o : Option _). unwrap_or o x) h

-- what is found passes the test
pub found-passes : {X : Type 0} (test : X → Bool) (xs : List X) (c : X) → find test xs ≡ Some c → test c ≡ true
found-passes test [] c f = none_some c f
found-passes {X} test (d ∷ xs) c f = by (found-passes test xs c) (test d) (grind arith) f
  where
    by : (find test xs ≡ Some c → test c ≡ true) → (b : Bool) → test d ≡ b → cond b (Some d) (find test xs) ≡ Some c → test c ≡ true
    by later true e f = subst (λ x. test x ≡ true) (some_is d c f) e
    by later false e f = later f

-- and stands there
pub found-any : {X : Type 0} (test good : X → Bool) (xs : List X) (c : X) → find test xs ≡ Some c → good c ≡ true → list_any good xs ≡ true
found-any test good [] c f h = none_some c f
found-any {X} test good (d ∷ xs) c f h = by (λ k. found-any test good xs c k h) (test d) f
  where
    by : (find test xs ≡ Some c → list_any good xs ≡ true) → (b : Bool) → cond b (Some d) (find test xs) ≡ Some c → (good d || list_any good xs) ≡ true
    by later true f = let e : good d ≡ true = subst (λ x. good x ≡ true) (sym (some_is d c f)) h in grind (arith, e)
    by later false f = let e : list_any good xs ≡ true = later f in grind (arith, e)
