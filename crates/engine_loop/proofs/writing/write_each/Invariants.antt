use Rattle.std.specs.Prelude.{◌≡◌, drop, Ok}
use Rattle.machine.specs.Connections.{serials}
use Rattle.attentive_acts.specs.Places.{at_writes}
use Rattle.engine_loop.specs.Watches.{serials_in}
use Rattle.engine_loop.specs.Stages.{Is, Passes}
use Rattle.engine_loop.proofs.writing.write_each.Given as goal

abbrev pub invariant-loop-index : goal.invariant-loop-index
invariant-loop-index g l = record {
  watched : serials_in l.watch ≡ serials_in l.fn.watch;
  same : serials_in l.watch ≡ (g.H.Hub.state l.hub).open_now;
  passes : Passes g.E.Engine.serves g.H.Hub.state g.H.Hub.leads (Ok tt) l.fn.core l.core l.fn.hub l.hub l.fn.watch l.watch
      (Is (λ fs s. at_writes fs s (serials s.connections))) (Is (λ fs s. at_writes fs s (drop l.index (serials_in l.fn.watch))));
}
