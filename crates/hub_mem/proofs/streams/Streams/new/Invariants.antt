use Rattle.std.proofs.Common.{◌≡◌}
use Rattle.std.specs.Prelude.{replicate}
use Rattle.hub_mem.specs.Feeds.{new_feed}
use Rattle.hub_mem.proofs.streams.Streams.new.Given as goal

abbrev pub invariant-loop-index : goal.invariant-loop-index
invariant-loop-index l = l.streams.items ≡ replicate l._index new_feed
