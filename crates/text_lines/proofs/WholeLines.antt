-- The words of a line have no blanks behind them.
use Rattle.std.proofs.Common.{◌≡◌, ℕ, ◌≤◌, Bool, true, false, cond, not, if◌then◌else◌, ◌&&◌, List}
use Rattle.std.proofs.Common.{[], ◌∷◌, ◌++◌, length, Ok, Err, Option, Some, None, refl, ap, sym}
use Rattle.std.proofs.Common.{◌∙◌, take_all, length-take, take-append-drop, arith}
use Rattle.std.specs.List.{prefix_len, position}
use Rattle.text_lines.specs.Bytes.{is_blank, is_allowed, unblanked, front, behind}
use Rattle.text_lines.specs.Reading.{◌>>=◌, Text, is_empty, word_at, run_at, end_at}
use Rattle.text_lines.specs.Lines.{Words, words_from, unless_forbidden, uncommented, trimmed}
use Rattle.text_lines.specs.Lines.{line_text}

twice_by : (t : Bool) (b : ℕ) (bs : List ℕ) → (is_blank b && is_empty (trimmed bs)) ≡ t
    → trimmed (trimmed bs) ≡ trimmed bs
    → trimmed (cond t [] (b ∷ trimmed bs)) ≡ cond t [] (b ∷ trimmed bs)
unfolding trimmed
twice_by true b bs e rest = refl
twice_by false b bs e rest = rw (rest, e) refl

pub trimmed_twice : (xs : List ℕ) → trimmed (trimmed xs) ≡ trimmed xs
unfolding trimmed
trimmed_twice [] = refl
trimmed_twice (b ∷ bs) = twice_by (is_blank b && is_empty (trimmed bs)) b bs refl (trimmed_twice bs)

rest_by : (t : Bool) (b : ℕ) (bs : List ℕ) → cond t [] (b ∷ trimmed bs) ≡ b ∷ bs → trimmed bs ≡ bs
rest_by true b bs h = absurd cc
rest_by false b bs h = cc

trimmed_rest : (b : ℕ) (bs : List ℕ) → trimmed (b ∷ bs) ≡ b ∷ bs → trimmed bs ≡ bs
unfolding trimmed
trimmed_rest b bs h = rest_by (is_blank b && is_empty (trimmed bs)) b bs h

behind_by : (t : Bool) (b : ℕ) (bs : List ℕ) → trimmed (b ∷ bs) ≡ b ∷ bs
    → (trimmed bs ≡ bs → trimmed (unblanked bs) ≡ unblanked bs)
    → trimmed (cond t (unblanked bs) (b ∷ bs)) ≡ cond t (unblanked bs) (b ∷ bs)
behind_by true b bs h rest = rest (trimmed_rest b bs h)
behind_by false b bs h rest = h

pub trimmed_unblanked : (xs : List ℕ) → trimmed xs ≡ xs → trimmed (unblanked xs) ≡ unblanked xs
trimmed_unblanked [] h = h
trimmed_unblanked (b ∷ bs) h = behind_by (is_blank b) b bs h (trimmed_unblanked bs)

words_by : (xs : List ℕ) (n : ℕ) (words : List ℕ) (end : ℕ) → words_from xs n ≡ Words words end
    → xs ≡ words
words_by [] n words end h = absurd cc
words_by (b ∷ bs) n words end h = cc

words_unless : (place : Option ℕ) (xs words : List ℕ) (end : ℕ)
    → unless_forbidden place xs ≡ Words words end → unblanked (trimmed xs) ≡ words
words_unless None xs words end h =
    words_by (unblanked (trimmed xs)) (length (trimmed xs)) words end h
words_unless (Some place) xs words end h = absurd cc

pub words_are_trimmed : (raw words : List ℕ) (end : ℕ) → Words words end ≡ line_text raw
    → trimmed words ≡ words
unfolding line_text
words_are_trimmed raw words end h =
    let e =
    words_unless (position (λ b. not (is_allowed b)) (uncommented raw)) (uncommented raw) words
    end (sym h) in
    sym (ap trimmed e)
    ∙ trimmed_unblanked (trimmed (uncommented raw)) (trimmed_twice (uncommented raw)) ∙ e

-- ---- a word that is all of a line

shorter_by : (t : Bool) (b : ℕ) (bs : List ℕ) → length (trimmed bs) ≤ length bs
    → length (cond t [] (b ∷ trimmed bs)) ≤ length (b ∷ bs)
shorter_by true b bs h = omega arith
shorter_by false b bs h = omega arith

pub trimmed_shorter : (xs : List ℕ) → length (trimmed xs) ≤ length xs
unfolding trimmed
trimmed_shorter [] = omega arith
trimmed_shorter (b ∷ bs) =
    shorter_by (is_blank b && is_empty (trimmed bs)) b bs (trimmed_shorter bs)

blank_by : (t : Bool) (b : ℕ) (bs : List ℕ) → is_blank b ≡ t → cond t (unblanked bs) (b ∷ bs) ≡ []
    → (unblanked bs ≡ [] → trimmed bs ≡ []) → trimmed (b ∷ bs) ≡ []
unfolding trimmed
blank_by true b bs e h rest = rw (e, rest h) refl
blank_by false b bs e h rest = absurd cc

pub trimmed_nothing : (bs : List ℕ) → unblanked bs ≡ [] → trimmed bs ≡ []
unfolding trimmed
trimmed_nothing [] h = refl
trimmed_nothing (b ∷ bs) h = blank_by (is_blank b) b bs refl h (trimmed_nothing bs)

pub trimmed_blanks : (xs bs : List ℕ) → unblanked bs ≡ [] → trimmed (xs ++ bs) ≡ trimmed xs
unfolding trimmed
trimmed_blanks [] bs h = trimmed_nothing bs h
trimmed_blanks (x ∷ xs) bs h = rw (trimmed_blanks xs bs h) refl

-- where nothing but blanks stands behind a front, and the last byte is none, the front is all
pub front_is_whole : (p : ℕ → Bool) (xs : List ℕ) → trimmed xs ≡ xs → unblanked (behind p xs) ≡ []
    → front p xs ≡ xs
front_is_whole p xs whole none =
    let same : xs ≡ trimmed (front p xs) =
    sym whole ∙ ap trimmed (sym (take-append-drop (prefix_len p xs) xs))
    ∙ trimmed_blanks (front p xs) (behind p xs) none in
    take_all (prefix_len p xs) xs
    (omega
    (arith, ap length same, trimmed_shorter (front p xs), length-take (prefix_len p xs) xs))

ended_by : (rest : List ℕ) (read word : Text) → (end_at rest >>= λ _. Ok read) ≡ Ok word
    → (rest ≡ []) × (read ≡ word)
ended_by [] read word h = (refl, cc)
ended_by (b ∷ bs) read word h = absurd cc

word_by : (empty : Bool) (p : ℕ → Bool) (xs : List ℕ) (word : Text) → trimmed xs ≡ xs
    → ((if empty then Err (length xs) else Ok (run_at p xs)) >>= λ n. (end_at n.1 >>= λ _. Ok n.0))
    ≡ Ok word
    → word.text ≡ xs
word_by true p xs word whole h = absurd cc
word_by false p xs word whole h =
    let ended = ended_by (unblanked (behind p xs)) (run_at p xs).0 word h in
    ap (λ (t : Text). t.text) (sym ended.1) ∙ front_is_whole p xs whole ended.0

pub word_is_whole : (p : ℕ → Bool) (xs : List ℕ) (word : Text) → trimmed xs ≡ xs
    → (word_at p xs >>= λ n. (end_at n.1 >>= λ _. Ok n.0)) ≡ Ok word → word.text ≡ xs
unfolding word_at
word_is_whole p xs word whole h = word_by (is_empty (front p xs)) p xs word whole h
