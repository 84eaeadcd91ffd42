-- The corners that words make go by the last word that speaks of each.
use Rattle.std.proofs.Common.{◌≡◌, ℕ, ◌≤◌, Bool, true, false, cond, not, ◌&&◌, ◌||◌, ◌==◌, List, []}
use Rattle.std.proofs.Common.{◌∷◌, ◌++◌, Option, Some, None, refl, ap, sym, subst, ◌∙◌, ◌⊎◌, inl}
use Rattle.std.proofs.Common.{inr, arith}
use Rattle.std.specs.Prelude.{is_some}
use Rattle.std.specs.List.{list_all, list_any}
use Rattle.std.proofs.Math.Bool.{or-true}
use Rattle.std.proofs.lemmas.Bool.{eqb-true, or_parts, both_ways}
use Rattle.option_table.specs.declared.corners.CornerWord.{CornerWord}
use Rattle.option_table.specs.Corners.{corner_named, with_corners, without_corners, plain_corners}
use Rattle.option_table.specs.Corners.{after_word, and_then, after_words, of_words}
use Rattle.option_table.specs.CornersByWords.{Corner, has, adds, removes, IsAdded, is_corner_word}
use Rattle.option_table.specs.CornersByWords.{is_some_word}
use Rattle.option_table.proofs.CornerSteps.{made, no_plus_word, no_minus_word, no_empty_word}
use Rattle.option_table.proofs.CornerSteps.{nowhere}

-- ---- words, one after another

-- the corner after these words, where it was there before or not
abbrev kept_by : Corner → Bool → List (List ℕ) → Bool
kept_by c there [] = there
kept_by c there (word ∷ words) = kept_by c (adds c word || (there && not (removes c word))) words

record MadeBy (set : ℕ) (words : List (List ℕ)) (out : ℕ) : Type 0 where
  few : out ≤ 15
  corner : (c : Corner) → has out c ≡ kept_by c (has set c) words

one_more : (set out : ℕ) (word : List ℕ) (words : List (List ℕ)) (o : Option ℕ) → set ≤ 15
    → after_word set word ≡ o
    → ((next : ℕ) → next ≤ 15 → after_words next words ≡ Some out → MadeBy next words out)
    → and_then o (λ next. after_words next words) ≡ Some out → MadeBy set (word ∷ words) out
one_more set out word words None h e again k = absurd cc
one_more set out word words (Some next) h e again k =
    let m = made set next word h e in
    let others = again next m.few k in
    record {
      few = others.few;
      corner = λ c. others.corner c ∙ ap (λ t. kept_by c t words) (m.corner c);
    }

all_made : (words : List (List ℕ)) (set out : ℕ) → set ≤ 15 → after_words set words ≡ Some out
    → MadeBy set words out
all_made [] set out h k =
    let same : set ≡ out = cc in
    subst (MadeBy set []) same (record { few = h; corner = λ c. refl })
all_made (word ∷ words) set out h k =
    one_more set out word words (after_word set word) h refl
    (λ next few e. all_made words next out few e) k

-- ---- the last word that speaks of a corner

later : (c : Corner) (word : List ℕ) (words : List (List ℕ)) → IsAdded c words
    → IsAdded c (word ∷ words)
later c word words a =
    record {
      before = word ∷ a.before;
      word = a.word;
      behind = a.behind;
      parts = ap (λ (l : List (List ℕ)). word ∷ l) a.parts;
      added = a.added;
      kept = a.kept;
    }

-- it was there, and no word took it away
abbrev Stayed : Corner → Bool → List (List ℕ) → Type 0
Stayed c there words = (there ≡ true) × (list_any (removes c) words ≡ false)

stayed_or_added : (c : Corner) (there : Bool) (word : List ℕ) (words : List (List ℕ)) (a r : Bool)
    → adds c word ≡ a → removes c word ≡ r → (a || (there && not r)) ≡ true
    → list_any (removes c) words ≡ false → IsAdded c (word ∷ words) ⊎ Stayed c there (word ∷ words)
stayed_or_added c there word words true r e k h none =
    inl (record { before = []; word = word; behind = words; parts = refl; added = e; kept = none })
stayed_or_added c true word words false true e k h none = absurd cc
stayed_or_added c true word words false false e k h none = inr (refl, rw (k, none) refl)
stayed_or_added c false word words false r e k h none = absurd cc

kept_is : (c : Corner) (words : List (List ℕ)) (there : Bool) → kept_by c there words ≡ true
    → IsAdded c words ⊎ Stayed c there words
kept_is c [] there h = inr (h, refl)
kept_is c (word ∷ words) there h =
    elim (kept_is c words (adds c word || (there && not (removes c word))) h) [
      | inl a ↦ inl (later c word words a)
      | inr s ↦ stayed_or_added c there word words (adds c word) (removes c word) refl refl s.0 s.1
    ]

stays : (c : Corner) (words : List (List ℕ)) → list_any (removes c) words ≡ false
    → kept_by c true words ≡ true
stays c [] h = refl
stays c (word ∷ words) h =
    let parts = or_parts (removes c word) (list_any (removes c) words) h in
    rw (parts.0, or-true (adds c word)) (stays c words parts.1)

added_is : (c : Corner) (before : List (List ℕ)) (word : List ℕ) (behind : List (List ℕ))
    (there : Bool)
    → adds c word ≡ true → list_any (removes c) behind ≡ false
    → kept_by c there (before ++ word ∷ behind) ≡ true
added_is c [] word behind there a k =
    ap (λ t. kept_by c (t || (there && not (removes c word))) behind) a ∙ stays c behind k
added_is c (w ∷ before) word behind there a k = added_is c before word behind _ a k

-- ---- sets that words make

after_all : (words : List (List ℕ)) (set : ℕ) → of_words words ≡ Some set
    → after_words 0 words ≡ Some set
after_all [] set e = absurd cc
after_all (word ∷ words) set e = e

pub corners_few : (words : List (List ℕ)) (set : ℕ) → of_words words ≡ Some set → set ≤ 15
corners_few words set e = (all_made words 0 set (omega arith) (after_all words set e)).few

not_stayed : (c : Corner) (words : List (List ℕ)) → IsAdded c words ⊎ Stayed c (has 0 c) words
    → IsAdded c words
not_stayed c words (inl a) = a
not_stayed c words (inr s) = absurd (both_ways (has 0 c) (nowhere c) s.0)

pub corner_held : (words : List (List ℕ)) (set : ℕ) (c : Corner) → of_words words ≡ Some set
    → has set c ≡ true → IsAdded c words
corner_held words set c e h =
    let m = all_made words 0 set (omega arith) (after_all words set e) in
    not_stayed c words (kept_is c words (has 0 c) (sym (m.corner c) ∙ h))

pub corner_added : (words : List (List ℕ)) (set : ℕ) (c : Corner) → of_words words ≡ Some set
    → IsAdded c words → has set c ≡ true
corner_added words set c e a =
    let m = all_made words 0 set (omega arith) (after_all words set e) in
    m.corner c ∙ ap (kept_by c (has 0 c)) a.parts
    ∙ added_is c a.before a.word a.behind (has 0 c) a.added a.kept

-- ---- words for corners

with_some : (set : ℕ) (o : Option CornerWord) → is_some (with_corners set o) ≡ is_some o
with_some set None = refl
with_some set (Some w) = refl

without_some : (set : ℕ) (o : Option CornerWord) → is_some (without_corners set o) ≡ is_some o
without_some set None = refl
without_some set (Some w) = refl

plain_some : (set : ℕ) (o : Option CornerWord)
    → is_some (plain_corners set o) ≡ (is_some o || false)
plain_some set None = refl
plain_some set (Some w) = refl

second_some : (t : Bool) (set b : ℕ) (bs : List ℕ) → (b == 43) ≡ false → (b == 45) ≡ t
    → is_some
    (cond t (without_corners set (corner_named bs))
    (plain_corners set (corner_named (b ∷ bs))))
    ≡ is_corner_word (b ∷ bs)
second_some true set b bs p m =
    without_some set (corner_named bs)
    ∙ sym (ap (λ n. is_corner_word (n ∷ bs)) (eqb-true b 45 m) ∙ rw (no_minus_word bs) refl)
second_some false set b bs p m = rw (p, m) (plain_some set (corner_named (b ∷ bs)))

first_some : (t : Bool) (set b : ℕ) (bs : List ℕ) → (b == 43) ≡ t
    → is_some
    (cond t (with_corners set (corner_named bs))
    (cond (b == 45) (without_corners set (corner_named bs))
    (plain_corners set (corner_named (b ∷ bs)))))
    ≡ is_corner_word (b ∷ bs)
first_some true set b bs p =
    with_some set (corner_named bs)
    ∙ sym (ap (λ n. is_corner_word (n ∷ bs)) (eqb-true b 43 p) ∙ rw (no_plus_word bs) refl)
first_some false set b bs p = second_some (b == 45) set b bs p refl

word_some : (set : ℕ) (word : List ℕ) → is_some (after_word set word) ≡ is_corner_word word
unfolding after_word
word_some set [] = rw no_empty_word refl
word_some set (b ∷ bs) = first_some (b == 43) set b bs refl

then_some : (o : Option ℕ) (words : List (List ℕ)) (t : Bool)
    → ((next : ℕ) → is_some (after_words next words) ≡ t)
    → is_some (and_then o (λ next. after_words next words)) ≡ (is_some o && t)
then_some None words t again = refl
then_some (Some next) words t again = again next

words_some : (words : List (List ℕ)) (set : ℕ)
    → is_some (after_words set words) ≡ list_all is_corner_word words
words_some [] set = refl
words_some (word ∷ words) set =
    then_some (after_word set word) words (list_all is_corner_word words)
    (λ next. words_some words next)
    ∙ ap (λ t. t && list_all is_corner_word words) (word_some set word)

pub corners_some : (words : List (List ℕ))
    → is_some (of_words words) ≡ (is_some_word words && list_all is_corner_word words)
corners_some [] = refl
corners_some (word ∷ words) = words_some (word ∷ words) 0
