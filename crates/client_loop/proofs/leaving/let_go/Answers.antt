use Rattle.std.specs.Prelude.{Bool, List, ℕ}
use Rattle.std.proofs.Common.{subst}
use Rattle.share_base.specs.Writing.{WritesAll}
use Rattle.client_loop.proofs.Leaves.{all-released, some-released}
use Rattle.client_loop.proofs.leaving.let_go.Goals as goal

pub returns-then-not-write_all : goal.returns-then-not-write_all
returns-then-not-write_all g c = λ front d stood.
    some-released g.C.Attendant.stands c.args.core.now (g.C.Attendant.printed c.args.core.now) c.ended-releases.result (g.K.Sink.state c.args.out.now) (g.K.Sink.state c.write_all.new.out) c.args.end c.requires c.ended-releases.ensures front d stood
    (subst (λ (b : Bool). WritesAll b c.ended-releases.result (g.K.Sink.state c.args.out.now) (g.K.Sink.state c.write_all.new.out)) c.if-not-write_all.true (subst (λ (xs : List ℕ). WritesAll c.write_all.result xs (g.K.Sink.state c.args.out.now) (g.K.Sink.state c.write_all.new.out)) c.as_slice.ensures.value c.write_all.ensures))

pub returns : goal.returns
returns g c = λ front d stood.
    all-released g.C.Attendant.stands c.args.core.now (g.C.Attendant.printed c.args.core.now) c.ended-releases.result (g.K.Sink.state c.args.out.now) (g.K.Sink.state c.write_all.new.out) c.args.end c.requires c.ended-releases.ensures front d stood
    (subst (λ (b : Bool). WritesAll b c.ended-releases.result (g.K.Sink.state c.args.out.now) (g.K.Sink.state c.write_all.new.out)) c.if-not-write_all.false (subst (λ (xs : List ℕ). WritesAll c.write_all.result xs (g.K.Sink.state c.args.out.now) (g.K.Sink.state c.write_all.new.out)) c.as_slice.ensures.value c.write_all.ensures))
