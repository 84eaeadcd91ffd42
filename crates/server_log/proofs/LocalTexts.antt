-- Each line of a text of lines has the word before it.
use Rattle.std.specs.Prelude.{◌≡◌, refl, ℕ, ◌<◌, false, ◌==◌, List, [], ◌∷◌, ◌++◌, map}
use Rattle.std.specs.List.{flat_map, AllByRecursion}
use Rattle.std.proofs.Common.{arith, ap, sym, ◌∙◌, append_assoc}
use Rattle.std.proofs.lemmas.Bool.Decides.{nat_tests}
use Rattle.message_codec.specs.Showing.{after_blank}
use Rattle.held_inputs.specs.declared.line.Line.{Line}
use Rattle.held_inputs.specs.Line.{line_of}
use Rattle.held_inputs.specs.Ranges.{Fits}
use Rattle.held_inputs.proofs.WordsApart.{Dark, AllDark}
use Rattle.held_inputs.proofs.LineTexts.{first_word, further_words, line-words, dark-first, dark-further}
use Rattle.machine.specs.States.{Local}
use Rattle.machine.specs.Logs.{log_line}
use Rattle.server_log.specs.LocalText.{local, with_local, local_text, local_rest}

-- ---- a line has no newline but its last byte

-- no byte is a newline
abbrev Inside : List ℕ → Type 0
Inside [] = Unit {0}
Inside (b ∷ bs) = (31 < b) × Inside bs

inside-append : (a b : List ℕ) → Inside a → Inside b → Inside (a ++ b)
inside-append [] b h k = k
inside-append (x ∷ a) b h k = (h.0, inside-append a b h.1 k)

inside-dark : (w : List ℕ) → Dark w → Inside w
inside-dark [] h = tt
inside-dark (b ∷ bs) h = (let k : 32 < b = h.0 in omega arith, inside-dark bs h.1)

inside-words : (ws : List (List ℕ)) → AllDark ws → Inside (flat_map after_blank ws)
inside-words [] h = tt
inside-words (w ∷ ws) h = (omega arith, inside-append w (flat_map after_blank ws) (inside-dark w h.0) (inside-words ws h.1))

abbrev body : Line → List ℕ
body l = first_word l ++ flat_map after_blank (further_words l)

line-body : (l : Line) → line_of l ≡ body l ++ 10 ∷ []
line-body l = line-words l

inside-line : (l : Line) → Fits l → Inside (body l)
inside-line l f = inside-append (first_word l) (flat_map after_blank (further_words l)) (inside-dark (first_word l) (dark-first l)) (inside-words (further_words l) (dark-further l f))

-- ---- the word before it

rest-inside : (w rest : List ℕ) → Inside w → local_rest (w ++ rest) ≡ w ++ local_rest rest
rest-inside [] rest h = refl
rest-inside (b ∷ w) rest h =
    let other : (b == 10) ≡ false = grind (arith, nat_tests, h.0) in
    ap (λ x. b ∷ with_local x (w ++ rest)) other ∙ ap (λ xs. b ∷ xs) (rest-inside w rest h.1)

pub text-begins : (bytes : List ℕ) (b : ℕ) (bs : List ℕ) → bytes ≡ b ∷ bs → local_text bytes ≡ local ++ local_rest bytes
text-begins bytes b bs e = ap local_text e ∙ ap (λ xs. local ++ local_rest xs) (sym e)

begins : (w rest : List ℕ) → local_text (w ++ 10 ∷ rest) ≡ local ++ local_rest (w ++ 10 ∷ rest)
begins [] rest = refl
begins (b ∷ w) rest = refl

one-text : (w rest : List ℕ) → Inside w → local_text ((w ++ 10 ∷ []) ++ rest) ≡ (local ++ (w ++ 10 ∷ [])) ++ local_text rest
one-text w rest h =
    ap local_text (append_assoc w (10 ∷ []) rest)
    ∙ (begins w rest ∙ (ap (λ xs. local ++ xs) (rest-inside w (10 ∷ rest) h)
    ∙ (ap (λ xs. local ++ xs) (sym (append_assoc w (10 ∷ []) (local_text rest))) ∙ sym (append_assoc local (w ++ 10 ∷ []) (local_text rest)))))

one-line : (l : Line) (rest : List ℕ) → Fits l → local_text (line_of l ++ rest) ≡ log_line (Local l) ++ local_text rest
one-line l rest f =
    ap (λ xs. local_text (xs ++ rest)) (line-body l)
    ∙ (one-text (body l) rest (inside-line l f) ∙ ap (λ xs. (local ++ xs) ++ local_text rest) (sym (line-body l)))

pub all-lines : (ls : List Line) → AllByRecursion Fits ls → local_text (flat_map line_of ls) ≡ flat_map log_line (map Local ls)
all-lines [] f = refl
all-lines (l ∷ ls) f = one-line l (flat_map line_of ls) f.0 ∙ ap (λ xs. log_line (Local l) ++ xs) (all-lines ls f.1)
