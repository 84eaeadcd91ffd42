use Rattle.std.proofs.Common.{◌≡◌, take}
use Rattle.hub_mem.specs.Streams.{is_for_link}
use Rattle.hub_mem.specs.Feeds.{coming_in, new_feed, with_coming}
use Rattle.link_mem.proofs.link_playback.LinkPlayback.of_trace.Given as goal

abbrev pub invariant-loop-line : goal.invariant-loop-line
invariant-loop-line l = l.stream ≡ with_coming (coming_in is_for_link (take l.line-index l.line-items)) new_feed
