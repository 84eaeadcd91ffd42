use Rattle.std.specs.Prelude.{Bool, List, ℕ}
use Rattle.std.proofs.Common.{subst, sym}
use Rattle.client_loop.specs.Attendants.{Clears}
use Rattle.share_base.specs.Writing.{WritesAll}
use Rattle.client_loop.proofs.TurnSteps.{all-written, some-written}
use Rattle.client_loop.proofs.turns.write_lines.Goals as goal

pub returns-then-not-write_all-clause-lines : goal.returns-then-not-write_all-clause-lines
returns-then-not-write_all-clause-lines g c =
    some-written g.C.Attendant.stands c.args.core.now c.args.core.now c.lines.result.now (g.K.Sink.state c.args.out.now) (g.K.Sink.state c.write_all.new.out) c.lines.ensures.prints
    (subst (λ (b : Bool). WritesAll b c.lines.result.now (g.K.Sink.state c.args.out.now) (g.K.Sink.state c.write_all.new.out)) c.if-not-write_all.true c.write_all.ensures)

pub returns-clause-lines : goal.returns-clause-lines
returns-clause-lines g c =
    all-written g.C.Attendant.stands c.args.core.now c.clear_lines.new.self c.lines.result.now (g.K.Sink.state c.args.out.now) (g.K.Sink.state c.write_all.new.out) c.lines.ensures.prints
    (subst (λ (b : Bool). WritesAll b c.lines.result.now (g.K.Sink.state c.args.out.now) (g.K.Sink.state c.write_all.new.out)) c.if-not-write_all.false c.write_all.ensures)
    (subst (λ (t : List ℕ). Clears g.C.Attendant.stands c.args.core.now c.clear_lines.new.self t) (sym c.lines.ensures.value) c.clear_lines.ensures.clears)
