use Rattle.std.proofs.Common.{◌≡◌, length}
use Rattle.client_talk.specs.Options as spec
use Rattle.client_talk.proofs.options.rate_after.Given as goal

-- the rest leads to the rate that all words lead to
abbrev pub invariant-loop-code : goal.invariant-loop-code
invariant-loop-code l = spec.rate_after l.found l.rest ≡ spec.rate_after l.rate l.words

abbrev pub decreases-loop-code : goal.decreases-loop-code
decreases-loop-code l = length l.rest
