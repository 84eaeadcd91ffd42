use Rattle.std.proofs.Common.{◌≡◌, take}
use Rattle.hub_mem.specs.Streams.{is_for_link}
use Rattle.hub_mem.specs.Standing.{feed_after_all}
use Rattle.link_mem.proofs.link_playback.hear_all.Given as goal

abbrev pub invariant-loop-line : goal.invariant-loop-line
invariant-loop-line l = l.stream ≡ feed_after_all is_for_link (take l.line-index l.lines) l.fn.stream
