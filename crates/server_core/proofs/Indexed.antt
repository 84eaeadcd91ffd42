-- Lists that are gone through by index.
use Rattle.std.specs.Prelude.{◌≡◌, refl, ℕ, zero, suc, ◌+◌, ◌<◌, ◌≤◌, List, [], ◌∷◌, ◌++◌, length, take, slice_get, Option, Some, None}
use Rattle.std.specs.List.{filter_map, cons_option}
use Rattle.std.specs.Option.{option_to_list}
use Rattle.std.proofs.Common.{sym, ap, ◌∙◌, add-one, get_or}
use Rattle.std.proofs.lemmas.Option.{slice_get_read, slice_get_past}
use Rattle.machine.specs.Combining.{for_each}
use Rattle.machine.specs.Connections.{Connection}
use Rattle.connection_table.specs.declared.connection.Connection as kept
use Rattle.connection_table.specs.Standing.{Pairs}
use Rattle.connection_table.proofs.Pairs.{FoundPair}
use Rattle.server_core.proofs.Loops.{for_each-append}

one_more : {A : Type 0} (xs : List A) (i : ℕ) → take (suc i) xs ≡ take i xs ++ option_to_list (slice_get xs i)
one_more [] zero = refl
one_more [] (suc i) = refl
one_more (x ∷ xs) zero = refl
one_more (x ∷ xs) (suc i) = ap (λ ys. x ∷ ys) (one_more xs i)

pub take-one : {A : Type 0} (xs : List A) (i : ℕ) → take (i + 1) xs ≡ take i xs ++ option_to_list (slice_get xs i)
take-one xs i = ap (λ n. take n xs) (add-one i) ∙ one_more xs i

-- the rule for one more of the list
pub for_each-one : {A S : Type 0} (xs : List A) (i : ℕ) (rule : A → S → S) (s : S) → for_each (take (i + 1) xs) rule s ≡ for_each (option_to_list (slice_get xs i)) rule (for_each (take i xs) rule s)
for_each-one xs i rule s = ap (λ ys. for_each ys rule s) (take-one xs i) ∙ for_each-append (take i xs) (option_to_list (slice_get xs i)) rule s

cons_append : {A : Type 0} (o : Option A) (us vs ws : List A) → us ≡ vs ++ ws → cons_option o us ≡ cons_option o vs ++ ws
cons_append None us vs ws e = e
cons_append (Some x) us vs ws e = ap (λ ys. x ∷ ys) e

pub filter_map-append : {A B : Type 0} (f : A → Option B) (xs ys : List A) → filter_map f (xs ++ ys) ≡ filter_map f xs ++ filter_map f ys
filter_map-append f [] ys = refl
filter_map-append f (x ∷ xs) ys = cons_append (f x) (filter_map f (xs ++ ys)) (filter_map f xs) (filter_map f ys) (filter_map-append f xs ys)

-- what is read at an index
pub read-some : {A : Type 0} (now list : List A) (i : ℕ) (x : A) → now ≡ list → i < length now → x ≡ get_or now i x → Some x ≡ slice_get list i
read-some now list i x e lt is = sym (ap (λ xs. slice_get xs i) (sym e) ∙ slice_get_read now (length now) i x refl lt is)

pub read-none : {A : Type 0} (now list : List A) (i : ℕ) → now ≡ list → length now ≤ i → None ≡ slice_get list i
read-none now list i e le = sym (ap (λ xs. slice_get xs i) (sym e) ∙ slice_get_past now i le)

-- the connections of one index stand for one another
pub pairs-at : (R : kept.Connection → Connection → Type 0) (low : ℕ) (ks : List kept.Connection) (cs : List Connection) (i : ℕ) → Pairs R low ks cs → FoundPair R (slice_get ks i) (slice_get cs i)
pairs-at R low [] [] i h = tt
pairs-at R low [] (c ∷ cs) i h = absurd h
pairs-at R low (k ∷ ks) [] i h = absurd h
pairs-at R low (k ∷ ks) (c ∷ cs) zero h = h.1
pairs-at R low (k ∷ ks) (c ∷ cs) (suc i) h = pairs-at R c.serial ks cs i h.2
