-- Words that are taken from a line one after another.
use Rattle.std.proofs.Common.{◌≡◌, ℕ, ◌+◌, ◌<◌, true, false, ◌==◌, List, [], ◌∷◌, ◌++◌, length, map}
use Rattle.std.proofs.Common.{take, ap, sym, ◌∙◌, append_assoc, length-append, arith}
use Rattle.std.proofs.lemmas.List.{take_more_set, map-append, append-nil}
use Rattle.std.proofs.Math.ListN.{set}
use Rattle.text_lines.specs.declared.bytes.WordKind.TheVariants as kind
use Rattle.text_lines.specs.Bytes.{takes, front, behind, unblanked, is_tight}
use Rattle.text_lines.specs.Words.{words_of}
use Rattle.text_lines.proofs.WordLists.{words_first, words_unblanked, unblanked_tight}

pub first_words : (line rest : List ℕ) → rest ≡ unblanked line → words_of line ≡ words_of rest
first_words line rest e = sym (words_unblanked line) ∙ ap words_of (sym e)

pub tight_after : (line rest : List ℕ) → rest ≡ unblanked line → is_tight rest ≡ true
tight_after line rest e = ap is_tight e ∙ unblanked_tight line

-- an array of words that holds one more
pub one_more_word : {A : Type 0} (text : A → List ℕ) (words : List A) (n : ℕ) (word : A)
    → n < length words
    → map text (take (n + 1) (set words n word)) ≡ map text (take n words) ++ text word ∷ []
one_more_word text words n word h =
    ap (map text) (take_more_set words n word h) ∙ map-append text (take n words) (word ∷ [])

pub word_taken : (all have : List (List ℕ)) (rest word after left : List ℕ)
    → all ≡ have ++ words_of rest → is_tight rest ≡ true → 0 < length rest
    → word ≡ front (takes kind.Solid) rest
    → after ≡ behind (takes kind.Solid) rest → left ≡ unblanked after
    → all ≡ (have ++ word ∷ []) ++ words_of left
word_taken all have rest word after left same tight some w a l =
    same
    ∙ ap (λ (ws : List (List ℕ)). have ++ ws)
    (words_first rest tight some
    ∙ ap (λ (x : List ℕ). x ∷ words_of (unblanked (behind (takes kind.Solid) rest)))
    (sym w)
    ∙ ap (λ (xs : List ℕ). word ∷ words_of xs) (sym (l ∙ ap unblanked a)))
    ∙ sym (append_assoc have (word ∷ []) (words_of left))

pub no_more_words : (have : List (List ℕ)) (rest : List ℕ) → rest ≡ []
    → have ++ words_of rest ≡ have
unfolding words_of
no_more_words have rest e = ap (λ (xs : List ℕ). have ++ words_of xs) e ∙ append-nil have

-- a line that begins with so many words and has one more has more than so many
pub too_many_words : (all have : List (List ℕ)) (rest : List ℕ) (n : ℕ)
    → all ≡ have ++ words_of rest → length have ≡ n → is_tight rest ≡ true → 0 < length rest
    → n < length all
too_many_words all have rest n same l tight some =
    let more : words_of rest
    ≡ front (takes kind.Solid) rest
    ∷ words_of (unblanked (behind (takes kind.Solid) rest)) =
    words_first rest tight some in
    omega (arith, ap length same, length-append have (words_of rest), ap length more)

pub some_left : (xs : List ℕ) → false ≡ (length xs == 0) → 0 < length xs
some_left [] e = absurd cc
some_left (x ∷ xs) e = omega arith
