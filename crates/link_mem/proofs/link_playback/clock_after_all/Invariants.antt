use Rattle.std.proofs.Common.{◌≡◌, take}
use Rattle.std.specs.List.{fold}
use Rattle.hub_mem.specs.Stories.{came_all, clock_after}
use Rattle.link_mem.proofs.link_playback.clock_after_all.Given as goal

abbrev pub invariant-loop-line : goal.invariant-loop-line
invariant-loop-line l = l.moment ≡ fold clock_after l.clock (came_all (take l.line-index l.lines))
