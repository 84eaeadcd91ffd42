use Rattle.engine_loop.specs.Watches.{serials_in}
use Rattle.engine_loop.specs.Stages.{Course}
use Rattle.engine_loop.proofs.Departs.{to-leave, all-left, log-broke, left-short}
use Rattle.engine_loop.proofs.running.depart.Goals as goal

pub returns-in-Ok-write_log : goal.returns-in-Ok-write_log
returns-in-Ok-write_log g c = λ r turns old calm h.
    let q = to-leave g.E.Engine.serves g.E.Engine.departs g.met.E.Engine.departing g.H.Hub.state g.H.Hub.leads r turns c.args.core.now c.args.hub.now c.args.watch.now old (g.K.Sink.state c.args.out.now) calm c.args.end c.requires.goes h in
    let then : Course g.row.H.Denot = record r { front = q.front; waits = q.waits; failed = q.failed } in
    all-left g.E.Engine.departs g.H.Hub.state g.H.Hub.leads r c.args.end turns c.args.core.now c.leave_each.new.core c.write_log.new.core c.args.hub.now c.leave_each.new.hub (serials_in c.args.watch.now) old (g.K.Sink.state c.args.out.now) (g.K.Sink.state c.write_log.new.out) c.requires.goes q (c.in-Ok.ensures.leaves then c.args.end turns q.departing) c.in-Ok-write_log.ensures.departs

pub returns-in-Err-write_log : goal.returns-in-Err-write_log
returns-in-Err-write_log g c = λ r turns old calm h.
    let q = to-leave g.E.Engine.serves g.E.Engine.departs g.met.E.Engine.departing g.H.Hub.state g.H.Hub.leads r turns c.args.core.now c.args.hub.now c.args.watch.now old (g.K.Sink.state c.args.out.now) calm c.args.end c.requires.goes h in
    let then : Course g.row.H.Denot = record r { front = q.front; waits = q.waits; failed = q.failed } in
    log-broke g.E.Engine.departs g.H.Hub.state g.H.Hub.leads r c.args.end turns c.args.core.now c.leave_each.new.core c.write_log.new.core c.args.hub.now c.leave_each.new.hub (serials_in c.args.watch.now) old (g.K.Sink.state c.args.out.now) (g.K.Sink.state c.write_log.new.out) c.requires.goes q c.in-Err-write_log.fault (c.in-Ok.ensures.leaves then c.args.end turns q.departing) c.in-Err-write_log.ensures.departs

pub returns-in-Err : goal.returns-in-Err
returns-in-Err g c = λ r turns old calm h.
    let q = to-leave g.E.Engine.serves g.E.Engine.departs g.met.E.Engine.departing g.H.Hub.state g.H.Hub.leads r turns c.args.core.now c.args.hub.now c.args.watch.now old (g.K.Sink.state c.args.out.now) calm c.args.end c.requires.goes h in
    let then : Course g.row.H.Denot = record r { front = q.front; waits = q.waits; failed = q.failed } in
    left-short g.E.Engine.departs g.H.Hub.state g.H.Hub.leads r c.args.end turns c.args.core.now c.leave_each.new.core c.leave_each.new.core c.args.hub.now c.leave_each.new.hub (serials_in c.args.watch.now) old (g.K.Sink.state c.args.out.now) (g.K.Sink.state c.args.out.now) c.requires.goes q (c.in-Err.ensures.leaves then c.args.end turns q.departing)
