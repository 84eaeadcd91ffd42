use Rattle.std.proofs.Common.{◌≡◌, map, length}
use Rattle.script_screen.specs.Grammar.{begins_with}
use Rattle.script_screen.proofs.rows.begins.Given as goal

abbrev pub invariant-loop-missing : goal.invariant-loop-missing
invariant-loop-missing l =
    begins_with (map (λ w. w.now) l.wanted) (map (λ w. w.now) l.words)
    ≡ begins_with (map (λ w. w.now) l.missing) (map (λ w. w.now) l.rest)

abbrev pub decreases-loop-missing : goal.decreases-loop-missing
decreases-loop-missing l = length l.missing
