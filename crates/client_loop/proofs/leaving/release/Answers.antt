use Rattle.std.proofs.Common.{sym, ◌∙◌}
use Rattle.client_loop.specs.Ends as ends
use Rattle.client_loop.proofs.Leaves.{releases-at, releases-none, released-after, lines-failed}
use Rattle.client_loop.proofs.leaving.release.Goals as goal

pub returns-then-is_broken : goal.returns-then-is_broken
returns-then-is_broken g c = λ front d stood.
    releases-none (ends.is_broken c.args.end) c.args.end front d (g.K.Sink.state c.args.out.now) (sym c.is_broken.ensures ∙ c.if-is_broken.true)

pub returns-in-Ok : goal.returns-in-Ok
returns-in-Ok g c = λ front d stood.
    releases-at (ends.is_broken c.args.end) c.args.end c.let_go.result front d (g.K.Sink.state c.args.out.now) (g.K.Sink.state c.let_go.new.out) (sym c.is_broken.ensures ∙ c.if-is_broken.false)
    (released-after g.C.Attendant.stands c.args.core.now c.write_lines.new.core (g.K.Sink.state c.args.out.now) (g.K.Sink.state c.write_lines.new.out) (g.K.Sink.state c.let_go.new.out) c.args.end c.let_go.result front d stood c.in-Ok.ensures.lines c.let_go.ensures)

pub returns-in-Err : goal.returns-in-Err
returns-in-Err g c = λ front d stood.
    releases-at (ends.is_broken c.args.end) c.args.end c.in-Err.fault front d (g.K.Sink.state c.args.out.now) (g.K.Sink.state c.write_lines.new.out) (sym c.is_broken.ensures ∙ c.if-is_broken.false)
    (lines-failed g.C.Attendant.stands c.args.core.now c.write_lines.new.core (g.K.Sink.state c.args.out.now) (g.K.Sink.state c.write_lines.new.out) c.args.end c.in-Err.fault front d stood c.in-Err.ensures.lines)
