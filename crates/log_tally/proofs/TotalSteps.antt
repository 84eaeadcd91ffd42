-- The totals of a text that has one byte more.
use Rattle.std.proofs.Common.{◌≡◌, ◌≢◌, ℕ, ◌+◌, min, eqb, cond, Bool, true, false, List, [], ◌∷◌, ◌++◌, refl, sym, ap, subst, ◌∙◌, arith}
use Rattle.std.specs.List.{count_by, sum_by}
use Rattle.std.proofs.lemmas.List.Sums.{sum_by_push}
use Rattle.std.proofs.lemmas.Bool.Decides.{nat_tests}
use Rattle.log_tally.specs.declared.open_line.OpenLine.{OpenLine}
use Rattle.log_tally.specs.declared.totals.Totals.{Totals}
use Rattle.log_tally.specs.LogLines.{LinesAndRest, lines_and_rest, split_lines}
use Rattle.log_tally.specs.Totals.{capped, is_send, line_taken, line_queued}
use Rattle.log_tally.specs.OpenLines.{IsKept, AreTotalsOf}
use Rattle.log_tally.proofs.LineSteps.{line_ends, line_goes_on}

no_newline : (b : ℕ) → b ≢ 10 → eqb b 10 ≡ false
no_newline b ne = grind (arith, nat_tests)

capped_sum : (a b n m : ℕ) → n ≡ capped a → m ≡ capped b → min (n + m) 18446744073709551615 ≡ capped (a + b)
capped_sum a b n m e f = grind (arith, e, f)

capped_one : (t : Bool) → cond t 1 0 ≡ capped (cond t 1 0)
capped_one true = refl
capped_one false = refl

-- a sum over one line more
pushed : (f : List ℕ → ℕ) (lines : List (List ℕ)) (line : List ℕ) (old more new : ℕ) → old ≡ capped (sum_by f lines) → more ≡ capped (f line) → new ≡ min (old + more) 18446744073709551615
    → new ≡ capped (sum_by f (lines ++ line ∷ []))
pushed f lines line old more new a b c =
    c ∙ capped_sum (sum_by f lines) (f line) old more a b ∙ ap capped (sym (sum_by_push f lines line))

abbrev sends : List ℕ → ℕ
sends line = cond (is_send line) 1 0

pub totals_go_on : (t : Totals) (kept : OpenLine) (text : List ℕ) (b : ℕ) → b ≢ 10 → ((line : List ℕ) → IsKept t.line line → IsKept kept (line ++ b ∷ [])) → AreTotalsOf t text
    → AreTotalsOf (record t { line = kept }) (text ++ b ∷ [])
totals_go_on t kept text b ne push h =
    let is : split_lines (text ++ b ∷ []) ≡ lines_and_rest (split_lines text).lines ((split_lines text).rest ++ b ∷ []) = line_goes_on text b (no_newline b ne) in
    record {
      frames = h.frames ∙ ap (λ (s : LinesAndRest). capped (count_by is_send s.lines)) (sym is);
      taken = h.taken ∙ ap (λ (s : LinesAndRest). capped (sum_by line_taken s.lines)) (sym is);
      queued = h.queued ∙ ap (λ (s : LinesAndRest). capped (sum_by line_queued s.lines)) (sym is);
      line = subst (λ (s : LinesAndRest). IsKept kept s.rest) (sym is) (push (split_lines text).rest h.line);
    }

pub totals_end : (t : Totals) (kept : OpenLine) (text : List ℕ) (b frames taken queued f k q : ℕ) → b ≡ 10 → IsKept kept []
    → f ≡ cond (is_send (split_lines text).rest) 1 0 → k ≡ capped (line_taken (split_lines text).rest) → q ≡ capped (line_queued (split_lines text).rest)
    → frames ≡ min (t.frames + f) 18446744073709551615 → taken ≡ min (t.taken + k) 18446744073709551615 → queued ≡ min (t.queued + q) 18446744073709551615 → AreTotalsOf t text
    → AreTotalsOf (record { line = kept; frames = frames; taken = taken; queued = queued }) (text ++ b ∷ [])
totals_end t kept text b frames taken queued f k q e empty is_f is_k is_q a c d h =
    let lines = (split_lines text).lines in
    let rest = (split_lines text).rest in
    let is : split_lines (text ++ b ∷ []) ≡ lines_and_rest (lines ++ rest ∷ []) [] = line_ends text b (ap (λ (n : ℕ). eqb n 10) e) in
    record {
      frames = pushed sends lines rest t.frames f frames h.frames (is_f ∙ capped_one (is_send rest)) a ∙ ap (λ (s : LinesAndRest). capped (count_by is_send s.lines)) (sym is);
      taken = pushed line_taken lines rest t.taken k taken h.taken is_k c ∙ ap (λ (s : LinesAndRest). capped (sum_by line_taken s.lines)) (sym is);
      queued = pushed line_queued lines rest t.queued q queued h.queued is_q d ∙ ap (λ (s : LinesAndRest). capped (sum_by line_queued s.lines)) (sym is);
      line = subst (λ (s : LinesAndRest). IsKept kept s.rest) (sym is) empty;
    }
