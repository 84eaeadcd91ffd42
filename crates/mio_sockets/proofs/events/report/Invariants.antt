use Rattle.std.proofs.Common.{◌≡◌, ◌++◌, map}
use Rattle.std.specs.Slice.Iter.{iter_rest}
use Rattle.mio.specs.Events.{items}
use Rattle.mio_sockets.specs.Marks.{mark_of}
use Rattle.mio_sockets.proofs.events.report.Given as goal

-- the marks so far, and those of the events that are left
abbrev pub invariant-loop-event : goal.invariant-loop-event
invariant-loop-event l = l.ready ++ map mark_of (iter_rest l.event-iterator) ≡ map mark_of (items l.events)
