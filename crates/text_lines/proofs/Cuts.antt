-- A text and its first line.
use Rattle.std.proofs.Common.{◌≡◌, ℕ, ◌+◌, ◌<◌, ◌≤◌, Bool, true, false, cond, not, ◌==◌, List, []}
use Rattle.std.proofs.Common.{◌∷◌, length, take, drop, refl, ap, subst, ◌∙◌, Some, None, nat_lt}
use Rattle.std.proofs.Common.{arith}
use Rattle.std.specs.List.{position, position_or_len, slice_split}
use Rattle.std.specs.Str.Lines.{lines, lines_of_parts, strip_carriage_return}
use Rattle.std.proofs.lemmas.List.Splits.{slice_split_first, length-slice_split}
use Rattle.std.proofs.lemmas.Option.{cond_some}
use Rattle.std.proofs.lemmas.Bool.{ltb-false, ne_eqb}
use borrow.Author.Tests.{ltb-true}

abbrev is_line_feed : ℕ → Bool
is_line_feed b = b == 10

pub parts_again : (l : List ℕ) (parts : List (List ℕ)) → 0 < length parts
    → lines_of_parts (l ∷ parts) ≡ strip_carriage_return l ∷ lines_of_parts parts
parts_again l [] h = absurd (omega arith)
parts_again l (p ∷ ps) h = refl

pub lines_some : (xs : List ℕ) (n : ℕ) → position is_line_feed xs ≡ Some n
    → lines xs ≡ strip_carriage_return (take n xs) ∷ lines (drop (n + 1) xs)
lines_some xs n e =
    let found =
    cond_some (nat_lt (position_or_len is_line_feed xs) (length xs))
    (position_or_len is_line_feed xs) n e in
    let cut = slice_split_first is_line_feed xs 0 (ltb-true _ _ found.0) in
    let parts = slice_split is_line_feed (drop (position_or_len is_line_feed xs + 1) xs) in
    let some : 0 < length parts =
    omega
    (arith, length-slice_split is_line_feed (drop (position_or_len is_line_feed xs + 1) xs))
    in
    subst (λ (k : ℕ). lines xs ≡ strip_carriage_return (take k xs) ∷ lines (drop (k + 1) xs))
    found.1
    (ap lines_of_parts cut ∙ parts_again (take (position_or_len is_line_feed xs) xs) parts some)

alone_then : (t : Bool) (p : ℕ → Bool) (b : ℕ) (bs : List ℕ) (q : ℕ) → p b ≡ t
    → (length bs ≤ q → slice_split p bs ≡ bs ∷ [])
    → length (b ∷ bs) ≤ cond (not t) (1 + q) 0 → slice_split p (b ∷ bs) ≡ (b ∷ bs) ∷ []
alone_then true p b bs q e rest h = absurd (omega arith)
alone_then false p b bs q e rest h = rw (e, rest (omega arith)) refl

pub split_alone : (p : ℕ → Bool) (xs : List ℕ) → length xs ≤ position_or_len p xs
    → slice_split p xs ≡ xs ∷ []
split_alone p [] h = refl
split_alone p (b ∷ bs) h = alone_then (p b) p b bs (position_or_len p bs) refl (split_alone p bs) h

cond_none : (b : Bool) (x : ℕ) → cond b (Some x) None ≡ None → b ≡ false
cond_none true x e = absurd cc
cond_none false x e = refl

pub lines_none : (xs : List ℕ) → 0 < length xs → position is_line_feed xs ≡ None
    → lines xs ≡ xs ∷ []
lines_none [] h e = absurd (omega arith)
lines_none (b ∷ bs) h e =
    let far : nat_lt (position_or_len is_line_feed (b ∷ bs)) (length (b ∷ bs)) ≡ false =
    cond_none _ (position_or_len is_line_feed (b ∷ bs)) e in
    let some : (length (b ∷ bs) == 0) ≡ false =
    ne_eqb (length (b ∷ bs)) 0 (λ k. absurd (omega arith)) in
    ap lines_of_parts (split_alone is_line_feed (b ∷ bs) (omega (arith, ltb-false _ _ far)))
    ∙ rw some refl
