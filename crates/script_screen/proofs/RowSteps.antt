-- A line of a row's form.
use Rattle.std.proofs.Common.{◌≡◌, ℕ, ◌+◌, ◌≤◌, true, false, cond, List, [], ◌∷◌, length}
use Rattle.std.proofs.Common.{map, drop, refl, ap, sym, ◌∙◌, arith, Bor}
use Rattle.std.specs.Prelude.{◌==◌, Option, Some, None, Bool}
use Rattle.std.specs.List.{find}
use Rattle.std.proofs.lemmas.Bool.{and_parts, eqb-true}
use Rattle.std.proofs.lemmas.List.{length-map}
use Rattle.script_screen.specs.declared.rows.Row as code
use Rattle.script_screen.specs.Grammar.{Row, takes, begins_with}
use Rattle.script_screen.specs.Views.{IsRowOf}

-- the code's row begins with as many words
pub same_words : (have : code.Row) (row : Row) → IsRowOf have row
    → length have.words.now ≡ length row.words
same_words have row h = sym (length-map have.words.now (λ w. w.now)) ∙ ap length h.words

-- a line of the row has its words and arguments
pub words_counted : (row : Row) (words : List (List ℕ)) → takes row words ≡ true
    → length words ≡ length row.words + length row.parts
words_counted row words h =
    eqb-true _ _
    (and_parts (begins_with row.words words) (length words == length row.words + length row.parts)
    h).1

pub words_fit : (have : code.Row) (row : Row) (words : List (Bor (List ℕ))) → IsRowOf have row
    → takes row (map (λ w. w.now) words) ≡ true → length have.words.now ≤ length words
words_fit have row words r h =
    omega (
      arith,
      same_words have row r,
      words_counted row (map (λ w. w.now) words) h,
      length-map words (λ w. w.now),
    )

pub rest_is : (have : code.Row) (row : Row) (words : List (List ℕ)) → IsRowOf have row
    → drop (length have.words.now) words ≡ drop (length row.words) words
rest_is have row words r = ap (λ (n : ℕ). drop n words) (same_words have row r)

pub rest_counted : (have : code.Row) (row : Row) (words rest : List (Bor (List ℕ)))
    → IsRowOf have row → takes row (map (λ w. w.now) words) ≡ true
    → length have.words.now + length rest ≡ length words
    → length rest ≡ length row.parts
rest_counted have row words rest r h e =
    omega (
      arith,
      same_words have row r,
      words_counted row (map (λ w. w.now) words) h,
      length-map words (λ w. w.now),
    )

by_test : {A : Type 0} (t : Bool) (p : A → Bool) (x y : A) (rest : Option A) → p x ≡ t
    → (rest ≡ Some y → p y ≡ true) → cond t (Some x) rest ≡ Some y → p y ≡ true
by_test true p x y rest e next h = let same : x ≡ y = cc in ap p (sym same) ∙ e
by_test false p x y rest e next h = next h

-- what is found passes
pub found_passes : {A : Type 0} (p : A → Bool) (xs : List A) (y : A) → find p xs ≡ Some y
    → p y ≡ true
found_passes p [] y h = absurd cc
found_passes p (x ∷ xs) y h = by_test (p x) p x y (find p xs) refl (found_passes p xs y) h

by_first : {A : Type 0} (t : Bool) (x : A) (rest : Option A) → t ≡ false → rest ≡ None
    → cond t (Some x) rest ≡ None
by_first true x rest e h = absurd cc
by_first false x rest e h = h

-- where none passes, none is found
pub none_passes : {A : Type 0} (p : A → Bool) (xs : List A) → ((x : A) → p x ≡ false)
    → find p xs ≡ None
none_passes p [] h = refl
none_passes p (x ∷ xs) h = by_first (p x) x (find p xs) (h x) (none_passes p xs h)
