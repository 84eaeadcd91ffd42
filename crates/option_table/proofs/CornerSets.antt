-- Sets of corners.
use Rattle.std.proofs.Common.{◌≡◌, ℕ, ◌<◌, ◌≤◌, true, false, ◌==◌, List, [], ◌∷◌, length, Option}
use Rattle.std.proofs.Common.{Some, None, bit_or, refl, ap, sym, ◌∙◌, arith}
use Rattle.std.proofs.lemmas.Nat.{or_lt}
use Rattle.text_lines.specs.declared.bytes.WordKind.TheVariants as kind
use Rattle.text_lines.specs.Bytes.{takes, front, behind, unblanked, is_tight}
use Rattle.text_lines.specs.Words.{words_of}
use Rattle.text_lines.proofs.WordLists.{words_first, words_unblanked, unblanked_tight}
use Rattle.option_table.specs.Corners.{after_words, of_words, corners_of_text, and_then, after_word}

pub or_small : (a b : ℕ) → a ≤ 15 → b ≤ 15 → bit_or a b ≤ 15
or_small a b h k = omega (arith, or_lt 4 a b (omega arith) (omega arith))

-- the words of a text that has some are taken one after another
pub some_words : (text rest : List ℕ) → rest ≡ unblanked text → is_tight rest ≡ true
    → 0 < length rest → corners_of_text text ≡ after_words 0 (words_of rest)
unfolding corners_of_text
some_words text rest e t h =
    let first = words_first rest t h in
    let words : words_of text
    ≡ front (takes kind.Solid) rest ∷ words_of (unblanked (behind (takes kind.Solid) rest)) =
    sym (words_unblanked text) ∙ ap words_of (sym e) ∙ first in
    ap of_words words ∙ ap (after_words 0) (sym first)

-- no word makes no set
pub no_words : (text rest : List ℕ) → rest ≡ unblanked text → rest ≡ []
    → corners_of_text text ≡ corners_of_text []
unfolding corners_of_text
no_words text rest e n = ap of_words (sym (words_unblanked text) ∙ ap words_of (sym e ∙ n))

pub one_word : (set : ℕ) (rest : List ℕ) → is_tight rest ≡ true → 0 < length rest
    → after_words set (words_of rest)
    ≡ and_then (after_word set (front (takes kind.Solid) rest))
    (λ next. after_words next (words_of (unblanked (behind (takes kind.Solid) rest))))
one_word set rest t h = ap (after_words set) (words_first rest t h)

pub no_text : corners_of_text [] ≡ None
unfolding corners_of_text words_of
no_text = refl

pub after_nothing : (set : ℕ) → after_words set (words_of []) ≡ Some set
unfolding words_of
after_nothing set = refl

pub is_some : (xs : List ℕ) → false ≡ (length xs == 0) → 0 < length xs
is_some [] e = absurd cc
is_some (x ∷ xs) e = omega arith

pub tight_like : (text rest : List ℕ) → rest ≡ unblanked text → is_tight rest ≡ true
tight_like text rest e = ap is_tight e ∙ unblanked_tight text

-- one word is taken, and the others are left
pub word_taken : (whole : Option ℕ) (set next : ℕ) (rest word after left : List ℕ)
    → whole ≡ after_words set (words_of rest) → is_tight rest ≡ true → 0 < length rest
    → word ≡ front (takes kind.Solid) rest → after ≡ behind (takes kind.Solid) rest
    → left ≡ unblanked after → after_word set word ≡ Some next
    → whole ≡ after_words next (words_of left)
word_taken whole set next rest word after left same t h w a l g =
    same ∙ one_word set rest t h
    ∙ ap
    (λ (o : Option ℕ).
    and_then o (λ n. after_words n (words_of (unblanked (behind (takes kind.Solid) rest)))))
    (ap (after_word set) (sym w) ∙ g)
    ∙ ap (λ (xs : List ℕ). after_words next (words_of xs)) (sym (l ∙ ap unblanked a))

-- a word that is none for corners
pub word_refused : (whole : Option ℕ) (set : ℕ) (rest word : List ℕ)
    → whole ≡ after_words set (words_of rest) → is_tight rest ≡ true → 0 < length rest
    → word ≡ front (takes kind.Solid) rest → after_word set word ≡ None → None ≡ whole
word_refused whole set rest word same t h w g =
    sym
    (same ∙ one_word set rest t h
    ∙ ap
    (λ (o : Option ℕ).
    and_then o
    (λ n.
    after_words n (words_of (unblanked (behind (takes kind.Solid) rest)))))
    (ap (after_word set) (sym w) ∙ g))
