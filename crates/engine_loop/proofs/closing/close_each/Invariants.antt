use Rattle.std.specs.Prelude.{◌≡◌, ◌+◌, ◌≤◌, length, Ok}
use Rattle.attentive_acts.specs.Places.{at_closes}
use Rattle.engine_loop.specs.Watches.{serials_in}
use Rattle.engine_loop.specs.Stages.{Is, Passes}
use Rattle.engine_loop.proofs.closing.close_each.Given as goal

abbrev pub invariant-loop-count : goal.invariant-loop-count
invariant-loop-count g l = record {
  same : serials_in l.watch ≡ (g.H.Hub.state l.hub).open_now;
  fewer : length (serials_in l.watch) + l._count ≤ length (serials_in l.fn.watch);
  passes : Passes g.E.Engine.serves g.H.Hub.state g.H.Hub.leads (Ok tt) l.fn.core l.core l.fn.hub l.hub l.fn.watch l.watch
      (Is (λ fs s. at_closes s)) (Is (λ fs s. at_closes s));
}
