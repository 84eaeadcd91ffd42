use Rattle.std.specs.Prelude.{◌≡◌, ℕ, drop}
use Rattle.engine_loop.specs.declared.serve_end.ServeEnd.{ServeEnd}
use Rattle.engine_loop.specs.Watches.{serials_in}
use Rattle.engine_loop.specs.Stages.{Course}
use Rattle.engine_loop.specs.Ends.{Departing}
use Rattle.engine_loop.proofs.leaving.leave_each.Given as goal

abbrev pub invariant-loop-stream : goal.invariant-loop-stream
invariant-loop-stream g l = record {
  open_now : (g.H.Hub.state l.hub).open_now ≡ drop l.stream-index (serials_in l.watch);
  leaves : (r : Course g.row.H.Denot) (end : ServeEnd) (turns : ℕ)
      → Departing g.E.Engine.departs g.H.Hub.state g.H.Hub.leads r end turns l.fn.core l.fn.hub (serials_in l.fn.watch)
      → Departing g.E.Engine.departs g.H.Hub.state g.H.Hub.leads r end turns l.core l.hub (drop l.stream-index (serials_in l.watch));
}
