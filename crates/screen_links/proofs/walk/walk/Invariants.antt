use Rattle.screen_links.proofs.Onward.{Left}
use Rattle.screen_links.proofs.Seen.{unseen}
use Rattle.screen_links.proofs.walk.walk.Given as goal

abbrev pub invariant-loop-link : goal.invariant-loop-link
invariant-loop-link l = Left l.links l.joined l.side l.fn.from l.seen l.at

-- how many screens the walk has not been at
abbrev pub decreases-loop-link : goal.decreases-loop-link
decreases-loop-link l = unseen l.seen 64
