use Rattle.std.proofs.Common.{◌≡◌, length}
use Rattle.script_screen.specs.Hex.{pairs_of}
use Rattle.script_screen.proofs.PairSteps.{bytes_before}
use Rattle.script_screen.proofs.arguments.pairs.Given as goal

abbrev pub invariant-loop-rest : goal.invariant-loop-rest
invariant-loop-rest l = pairs_of l.digits ≡ bytes_before l.bytes (pairs_of l.rest)

abbrev pub decreases-loop-rest : goal.decreases-loop-rest
decreases-loop-rest l = length l.rest
