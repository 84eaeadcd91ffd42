use Rattle.std.proofs.Common.{map}
use Rattle.std.specs.Slice.Iter.{iter_rest}
use Rattle.mio.specs.Events.{items}
use Rattle.mio_sockets.specs.Marks.{mark_of}
use Rattle.mio_sockets.proofs.ReportedMarks.{report-more, report-room, report-end}
use Rattle.mio_sockets.proofs.events.report.Goals as goal

pub push-requires : goal.push-requires
push-requires c =
    report-room mark_of c.in-Some.event.now c.loop-event.ready (iter_rest c.loop-event.event-iterator) (iter_rest c.next.new.self) (items c.args.events.now) 128
    c.in-Some.ensures.steps c.loop-event.invariant c.requires.few

pub loop-event-preserved : goal.loop-event-preserved
loop-event-preserved c =
    report-more mark_of c.in-Some.event.now c.mark_of.result c.loop-event.ready c.push.new.self (iter_rest c.loop-event.event-iterator) (iter_rest c.next.new.self) (map mark_of (items c.args.events.now))
    c.in-Some.ensures.steps c.mark_of.ensures c.push.ensures c.loop-event.invariant

pub returns : goal.returns
returns c =
    report-end mark_of c.loop-event.ready (iter_rest c.loop-event.event-iterator) (map mark_of (items c.args.events.now)) c.in-None.ensures.steps.0 c.loop-event.invariant
