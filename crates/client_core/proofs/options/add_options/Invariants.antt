use Rattle.std.proofs.Common.{◌≡◌, List, ℕ, ◌++◌, length}
use Rattle.client_core.proofs.Pairs.{with_left}
use Rattle.client_core.proofs.options.add_options.Given as goal

abbrev pub invariant-loop-code : goal.invariant-loop-code
invariant-loop-code l = record {
  all : with_left l.lines.items l.rest ≡ with_left l.fn.lines.items l.words;
  added : (more : List ℕ) × (l.lines.items ≡ l.fn.lines.items ++ more);
}

abbrev pub decreases-loop-code : goal.decreases-loop-code
decreases-loop-code l = length l.rest
