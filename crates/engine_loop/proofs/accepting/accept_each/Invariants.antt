use Rattle.std.specs.Prelude.{◌≡◌, ◌-◌, Ok}
use Rattle.attentive_acts.specs.Places.{at_accepts, most_accepts}
use Rattle.engine_loop.specs.Watches.{serials_in}
use Rattle.engine_loop.specs.Stages.{Is, Passes}
use Rattle.engine_loop.proofs.accepting.accept_each.Given as goal

abbrev pub invariant-loop-count : goal.invariant-loop-count
invariant-loop-count g l = record {
  same : serials_in l.watch ≡ (g.H.Hub.state l.hub).open_now;
  passes : Passes g.E.Engine.serves g.H.Hub.state g.H.Hub.leads (Ok tt) l.fn.core l.core l.fn.hub l.hub l.fn.watch l.watch
      (Is (λ fs s. at_accepts fs s most_accepts)) (Is (λ fs s. at_accepts fs s (most_accepts - l._count)));
}
