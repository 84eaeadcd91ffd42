use Rattle.std.specs.Prelude.{Bool}
use Rattle.std.proofs.Common.{subst}
use Rattle.share_base.specs.Writing.{WritesAll}
use Rattle.engine_loop.proofs.LogWrites.{all-logged, log-failed}
use Rattle.engine_loop.proofs.turns.write_log.Goals as goal

pub returns-then-not-write_all-clause-serves : goal.returns-then-not-write_all-clause-serves
returns-then-not-write_all-clause-serves g c =
    log-failed g.E.Engine.serves g.E.Engine.departs g.met.E.Engine.departing c.args.core.now c.args.core.now c.log.result.now (g.K.Sink.state c.args.out.now) (g.K.Sink.state c.write_all.new.out) c.log.ensures
    (subst (λ (b : Bool). WritesAll b c.log.result.now (g.K.Sink.state c.args.out.now) (g.K.Sink.state c.write_all.new.out)) c.if-not-write_all.true c.write_all.ensures)

pub returns-then-not-write_all-clause-departs : goal.returns-then-not-write_all-clause-departs
returns-then-not-write_all-clause-departs g c =
    log-failed g.E.Engine.departs g.E.Engine.departs (λ e f s h. h) c.args.core.now c.args.core.now c.log.result.now (g.K.Sink.state c.args.out.now) (g.K.Sink.state c.write_all.new.out) c.log.ensures
    (subst (λ (b : Bool). WritesAll b c.log.result.now (g.K.Sink.state c.args.out.now) (g.K.Sink.state c.write_all.new.out)) c.if-not-write_all.true c.write_all.ensures)

pub returns-clause-serves : goal.returns-clause-serves
returns-clause-serves g c =
    all-logged g.E.Engine.serves g.E.Engine.departs g.met.E.Engine.departing c.args.core.now c.clear_log.new.self c.log.result.now (g.K.Sink.state c.args.out.now) (g.K.Sink.state c.write_all.new.out) c.log.ensures
    (subst (λ (b : Bool). WritesAll b c.log.result.now (g.K.Sink.state c.args.out.now) (g.K.Sink.state c.write_all.new.out)) c.if-not-write_all.false c.write_all.ensures) c.clear_log.ensures.serves

pub returns-clause-departs : goal.returns-clause-departs
returns-clause-departs g c =
    all-logged g.E.Engine.departs g.E.Engine.departs (λ e f s h. h) c.args.core.now c.clear_log.new.self c.log.result.now (g.K.Sink.state c.args.out.now) (g.K.Sink.state c.write_all.new.out) c.log.ensures
    (subst (λ (b : Bool). WritesAll b c.log.result.now (g.K.Sink.state c.args.out.now) (g.K.Sink.state c.write_all.new.out)) c.if-not-write_all.false c.write_all.ensures) c.clear_log.ensures.departs
