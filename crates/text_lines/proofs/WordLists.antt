-- The words of a text, from its front.
use Rattle.std.proofs.Common.{◌≡◌, ℕ, zero, suc, ◌+◌, ◌<◌, ◌≤◌, Bool, true, false, cond, not, List}
use Rattle.std.proofs.Common.{[], ◌∷◌, length, take, drop, get_or, refl, ap, sym, ◌∙◌, take_all}
use Rattle.std.proofs.Common.{nat_lt, arith}
use Rattle.std.specs.Prelude.{filter}
use Rattle.std.specs.List.{prefix_len, position_or_len, slice_split}
use Rattle.std.proofs.lemmas.List.{drop_all}
use Rattle.std.proofs.lemmas.List.Splits.{slice_split_first}
use Rattle.std.proofs.lemmas.List.Sums.{passes_at_first}
use Rattle.std.proofs.Math.Seq.{drop-cons}
use Rattle.std.proofs.lemmas.Bool.{ltb-false}
use borrow.Author.Tests.{ltb-true}
use Rattle.text_lines.specs.declared.bytes.WordKind.TheVariants as kind
use Rattle.text_lines.specs.Bytes.{is_blank, is_tight, takes, front, behind, unblanked}
use Rattle.text_lines.specs.Reading.{is_empty}
use Rattle.text_lines.specs.Words.{words_of}
use Rattle.text_lines.proofs.Cuts.{split_alone}

tight_by : (t : Bool) (b : ℕ) (bs : List ℕ) → is_blank b ≡ t → is_tight (unblanked bs) ≡ true
    → is_tight (cond t (unblanked bs) (b ∷ bs)) ≡ true
tight_by true b bs e h = h
tight_by false b bs e h = ap not e

pub unblanked_tight : (xs : List ℕ) → is_tight (unblanked xs) ≡ true
unblanked_tight [] = refl
unblanked_tight (b ∷ bs) = tight_by (is_blank b) b bs refl (unblanked_tight bs)

blank_first : (b : ℕ) (bs : List ℕ) → is_blank b ≡ true → words_of (b ∷ bs) ≡ words_of bs
unfolding words_of
blank_first b bs e = rw e refl

words_by : (t : Bool) (b : ℕ) (bs : List ℕ) → is_blank b ≡ t → words_of (unblanked bs) ≡ words_of bs
    → words_of (cond t (unblanked bs) (b ∷ bs)) ≡ words_of (b ∷ bs)
words_by true b bs e h = h ∙ sym (blank_first b bs e)
words_by false b bs e h = refl

pub words_unblanked : (xs : List ℕ) → words_of (unblanked xs) ≡ words_of xs
words_unblanked [] = refl
words_unblanked (b ∷ bs) = words_by (is_blank b) b bs refl (words_unblanked bs)

-- a text that begins with no blank begins with a word of one byte at least
pub solid_front : (xs : List ℕ) → is_tight xs ≡ true → 0 < length xs
    → 0 < prefix_len (takes kind.Solid) xs
solid_front [] t h = absurd (omega arith)
solid_front (b ∷ bs) t h = rw t (omega arith)

pub some_kept : (w : List ℕ) (ws : List (List ℕ)) → 0 < length w
    → filter (λ w. not (is_empty w)) (w ∷ ws) ≡ w ∷ filter (λ w. not (is_empty w)) ws
some_kept [] ws h = absurd (omega arith)
some_kept (b ∷ bs) ws h = refl

some_taken : (n : ℕ) (xs : List ℕ) → 0 < n → 0 < length xs → 0 < length (take n xs)
some_taken n [] h k = absurd (omega arith)
some_taken zero (x ∷ xs) h k = absurd (omega arith)
some_taken (suc n) (x ∷ xs) h k = omega arith

cut : (xs : List ℕ) → is_tight xs ≡ true → 0 < length xs → position_or_len is_blank xs < length xs
    → words_of xs
    ≡ front (takes kind.Solid) xs ∷ words_of (unblanked (behind (takes kind.Solid) xs))
unfolding words_of
cut xs t h k =
    let q = position_or_len is_blank xs in
    let blank : is_blank (get_or xs q 0) ≡ true = passes_at_first is_blank xs 0 k in
    let rest : drop q xs ≡ get_or xs q 0 ∷ drop (suc q) xs = drop-cons xs q 0 k in
    let s : q + 1 ≡ suc q = omega arith in
    ap (filter (λ w. not (is_empty w))) (slice_split_first is_blank xs 0 k)
    ∙ some_kept (take q xs) (slice_split is_blank (drop (q + 1) xs))
    (some_taken q xs (solid_front xs t h) h)
    ∙ ap (λ (ws : List (List ℕ)). take q xs ∷ ws)
    (ap (λ n. words_of (drop n xs)) s
    ∙ sym
    (words_unblanked (drop q xs) ∙ ap words_of rest
    ∙ blank_first (get_or xs q 0) (drop (suc q) xs) blank))

alone : (xs : List ℕ) → is_tight xs ≡ true → 0 < length xs → length xs ≤ position_or_len is_blank xs
    → words_of xs
    ≡ front (takes kind.Solid) xs ∷ words_of (unblanked (behind (takes kind.Solid) xs))
unfolding words_of
alone xs t h k =
    let q = position_or_len is_blank xs in
    let all : take q xs ≡ xs = take_all q xs k in
    let none : drop q xs ≡ [] = drop_all q xs k in
    ap (filter (λ w. not (is_empty w))) (split_alone is_blank xs k) ∙ some_kept xs [] h
    ∙ rw (all, none) refl

by_place : (found : Bool) (xs : List ℕ) → is_tight xs ≡ true → 0 < length xs
    → nat_lt (position_or_len is_blank xs) (length xs) ≡ found
    → words_of xs
    ≡ front (takes kind.Solid) xs ∷ words_of (unblanked (behind (takes kind.Solid) xs))
by_place true xs t h e = cut xs t h (ltb-true _ _ e)
by_place false xs t h e = alone xs t h (omega (arith, ltb-false _ _ e))

-- the first word, and the words behind it
pub words_first : (xs : List ℕ) → is_tight xs ≡ true → 0 < length xs
    → words_of xs
    ≡ front (takes kind.Solid) xs ∷ words_of (unblanked (behind (takes kind.Solid) xs))
words_first xs t h = by_place (nat_lt (position_or_len is_blank xs) (length xs)) xs t h refl
