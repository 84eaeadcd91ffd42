-- Lines that are in the ranges of their fields.
use Rattle.std.proofs.Common.{ℕ, zero, suc, ◌<◌, ◌≤◌, Bool, true, false, cond, List, [], ◌∷◌, ◌++◌}
use Rattle.std.proofs.Common.{length, get_or, take, map, arith}
use Rattle.std.specs.Prelude.{Option, None, Some, IfSome, ◌==◌}
use Rattle.std.specs.List.{AllByRecursion}
use Rattle.std.specs.Option.{option_to_list}
use Rattle.std.proofs.lemmas.List.{append-nil, map-append}
use Rattle.held_inputs.specs.declared.line.Line.{Line}
use Rattle.held_inputs.specs.declared.line.Line.TheVariants.{ButtonUp, SaverOn, SaverOff}
use Rattle.held_inputs.specs.declared.keys.HeldKey.{HeldKey}
use Rattle.held_inputs.specs.Ranges.{Fits}
use Rattle.held_inputs.specs.Down.{up_of}
use Rattle.held_inputs.specs.Table.{places}
use Rattle.held_inputs.specs.Screen.{saver_line}

pub fit-append : (xs ys : List Line) → AllByRecursion Fits xs → AllByRecursion Fits ys
    → AllByRecursion Fits (xs ++ ys)
fit-append [] ys f g = g
fit-append (x ∷ xs) ys f g = (f.0, fit-append xs ys f.1 g)

pub fit-one : (o : Option Line) → IfSome o Fits → AllByRecursion Fits (option_to_list o)
fit-one None f = tt
fit-one (Some l) f = (f, tt)

-- one key more
pub fit-take : (ks : List HeldKey) (i : ℕ) (d : HeldKey) → i < length ks
    → AllByRecursion Fits (map up_of (take i ks)) → Fits (up_of (get_or ks i d))
    → AllByRecursion Fits (map up_of (take (suc i) ks))
fit-take [] i d lt f g = absurd (let q : i < 0 = lt in omega arith)
fit-take (k ∷ ks) zero d lt f g = (g, tt)
fit-take (k ∷ ks) (suc i) d lt f g =
    (f.0, fit-take ks i d (let q : suc i < suc (length ks) = lt in omega arith) f.1 g)

fit-place : (xs : List ℕ) (n : ℕ) (t : Bool) → n < 256 → AllByRecursion Fits (map ButtonUp xs)
    → AllByRecursion Fits (map ButtonUp (xs ++ cond t (n ∷ []) []))
fit-place xs n true lt f =
    rw map-append (fit-append (map ButtonUp xs) (ButtonUp n ∷ []) f (omega arith, tt))
fit-place xs n false lt f = rw append-nil f

-- the numbers of mouse buttons are below 256
pub fit-places : (table : List Bool) (n : ℕ) → n ≤ 256
    → AllByRecursion Fits (map ButtonUp (places table n))
unfolding places
fit-places table zero le = tt
fit-places table (suc n) le =
    fit-place (places table n) n (get_or table n false) (omega arith)
    (fit-places table n (omega arith))

pub fit-saver : (on : ℕ) → Fits (saver_line on)
fit-saver on = one (on == 0)
  where
    one : (t : Bool) → Fits (cond t SaverOff SaverOn)
    one true = tt
    one false = tt
