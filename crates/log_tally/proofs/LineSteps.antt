-- The lines of a text that has one byte more.
use Rattle.std.proofs.Common.{◌≡◌, ℕ, eqb, Bool, true, false, List, [], ◌∷◌, ◌++◌, refl, sym, ap, ◌∙◌, arith}
use Rattle.log_tally.specs.LogLines.{LinesAndRest, lines_and_rest, after_byte, split_lines}

-- the rest becomes a line, or is longer by a byte
abbrev ended : LinesAndRest → LinesAndRest
ended s = lines_and_rest (s.lines ++ s.rest ∷ []) []

abbrev longer : ℕ → LinesAndRest → LinesAndRest
longer b s = lines_and_rest s.lines (s.rest ++ b ∷ [])

abbrev by_test : Bool → ℕ → List (List ℕ) → List ℕ → LinesAndRest
by_test true c lines rest = lines_and_rest ([] ∷ lines) rest
by_test false c [] rest = lines_and_rest [] (c ∷ rest)
by_test false c (l ∷ ls) rest = lines_and_rest ((c ∷ l) ∷ ls) rest

tested : (c : ℕ) (lines : List (List ℕ)) (rest : List ℕ) → after_byte c lines rest ≡ by_test (eqb c 10) c lines rest
tested c [] rest = grind arith
tested c (l ∷ ls) rest = grind arith

first_ended : (t : Bool) (c : ℕ) (lines : List (List ℕ)) (rest : List ℕ) → by_test t c (lines ++ rest ∷ []) [] ≡ ended (by_test t c lines rest)
first_ended true c lines rest = refl
first_ended false c [] rest = refl
first_ended false c (l ∷ ls) rest = refl

first_longer : (t : Bool) (c b : ℕ) (lines : List (List ℕ)) (rest : List ℕ) → by_test t c lines (rest ++ b ∷ []) ≡ longer b (by_test t c lines rest)
first_longer true c b lines rest = refl
first_longer false c b [] rest = refl
first_longer false c b (l ∷ ls) rest = refl

after : (c : ℕ) (s t : LinesAndRest) → s ≡ t → after_byte c s.lines s.rest ≡ after_byte c t.lines t.rest
after c s t e = ap (λ (x : LinesAndRest). after_byte c x.lines x.rest) e

ends_first : (c : ℕ) (s : LinesAndRest) → after_byte c (s.lines ++ s.rest ∷ []) [] ≡ ended (after_byte c s.lines s.rest)
ends_first c s =
    tested c (s.lines ++ s.rest ∷ []) [] ∙ first_ended (eqb c 10) c s.lines s.rest
    ∙ ap ended (sym (tested c s.lines s.rest))

goes_on_first : (c b : ℕ) (s : LinesAndRest) → after_byte c s.lines (s.rest ++ b ∷ []) ≡ longer b (after_byte c s.lines s.rest)
goes_on_first c b s =
    tested c s.lines (s.rest ++ b ∷ []) ∙ first_longer (eqb c 10) c b s.lines s.rest
    ∙ ap (longer b) (sym (tested c s.lines s.rest))

-- a newline ends the line
pub line_ends : (text : List ℕ) (b : ℕ) → eqb b 10 ≡ true → split_lines (text ++ b ∷ []) ≡ lines_and_rest ((split_lines text).lines ++ (split_lines text).rest ∷ []) []
unfolding split_lines
line_ends [] b h = rw h refl
line_ends (c ∷ cs) b h = after c (split_lines (cs ++ b ∷ [])) (ended (split_lines cs)) (line_ends cs b h) ∙ ends_first c (split_lines cs)

-- every other byte goes on with it
pub line_goes_on : (text : List ℕ) (b : ℕ) → eqb b 10 ≡ false → split_lines (text ++ b ∷ []) ≡ lines_and_rest (split_lines text).lines ((split_lines text).rest ++ b ∷ [])
unfolding split_lines
line_goes_on [] b h = rw h refl
line_goes_on (c ∷ cs) b h = after c (split_lines (cs ++ b ∷ [])) (longer b (split_lines cs)) (line_goes_on cs b h) ∙ goes_on_first c b (split_lines cs)
