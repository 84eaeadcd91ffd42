-- The first byte of a list that passes a test, and where it stands.
use Rattle.std.proofs.Common.{◌≡◌, ℕ, ◌+◌, Bool, true, not, List, ◌∷◌, ◌++◌, length, drop, get_or}
use Rattle.std.proofs.Common.{Some, ap, sym, ◌∙◌, length-append, nat_lt, arith}
use Rattle.std.specs.List.{position, position_or_len}
use Rattle.std.proofs.lemmas.Bool.{lt-ltb, not_from_true}
use Rattle.std.proofs.lemmas.List.Folds.{length-prefix_len}
use Rattle.std.proofs.lemmas.List.Sums.{passes_at_first, split_at_first}
use Rattle.std.proofs.lemmas.Option.{cond_some}
use borrow.Author.Tests.{ltb-true}
use Rattle.text_lines.specs.Bytes.{front}
use Rattle.text_lines.specs.Spelling.{IsRun}
use Rattle.text_lines.proofs.SpelledWords.{front_run, run_len}

-- bytes that fail, one that passes, so many bytes from the begin, and others
pub record Found (p : ℕ → Bool) (xs : List ℕ) (place : ℕ) : Type 0 where
  pub good : List ℕ
  pub bad : ℕ
  pub rest : List ℕ
  pub text : xs ≡ good ++ bad ∷ rest
  pub run : IsRun (λ b. not (p b)) good
  pub passes : p bad ≡ true
  pub stands : place ≡ length good

pub found_of : (p : ℕ → Bool) (xs : List ℕ) (place : ℕ) → position p xs ≡ Some place
    → Found p xs place
found_of p xs place e =
    let k = position_or_len p xs in
    let found = cond_some (nat_lt k (length xs)) k place e in
    let within = ltb-true _ _ found.0 in
    record {
      good = front (λ b. not (p b)) xs;
      bad = get_or xs k 0;
      rest = drop (k + 1) xs;
      text = split_at_first p xs 0 within;
      run = front_run (λ b. not (p b)) xs;
      passes = passes_at_first p xs 0 within;
      stands = sym found.1 ∙ sym (length-prefix_len (λ b. not (p b)) xs);
    }

pub found_again : (p : ℕ → Bool) (good : List ℕ) (bad : ℕ) (rest : List ℕ)
    → IsRun (λ b. not (p b)) good → p bad ≡ true
    → position p (good ++ bad ∷ rest) ≡ Some (length good)
found_again p good bad rest run passes =
    let e : position_or_len p (good ++ bad ∷ rest) ≡ length good =
    run_len (λ b. not (p b)) good (bad ∷ rest) run (not_from_true (p bad) passes) in
    rw
    (lt-ltb (position_or_len p (good ++ bad ∷ rest)) (length (good ++ bad ∷ rest))
    (omega (arith, e, length-append good (bad ∷ rest))))
    (ap Some e)
