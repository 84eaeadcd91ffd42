use Rattle.std.specs.Prelude.{◌+◌}
use Rattle.std.proofs.Common.{arith}
use Rattle.attentive_links.specs.Places.{at_writes}
use Rattle.client_loop.specs.Attendants.{text_of}
use Rattle.client_loop.specs.Stages.{waited_once, with_front}
use Rattle.client_loop.specs.Turns.{turned_once}
use Rattle.client_loop.proofs.TurnSteps.{step-ends, last-step, cleared, lines-clear, lines-break, turn-err}
use Rattle.client_loop.proofs.turns.turn.Goals as goal

pub read_from-requires-clause-there : goal.read_from-requires-clause-there
read_from-requires-clause-there g c =
    let r = c.requires.there.0 in
    let lt = c.requires.there.1 in
    let s0 = c.in_ok-wait_once.ensures r lt c.requires.there.3 in
    (waited_once r, c.requires.there.2, c.in_ok-ask_moment.ensures (waited_once r) (omega (arith, lt)) s0)

pub write_to-requires : goal.write_to-requires
write_to-requires g c =
    let r = c.requires.there.0 in
    let lt = c.requires.there.1 in
    let s0 = c.in_ok-wait_once.ensures r lt c.requires.there.3 in
    let s1 = c.in_ok-ask_moment.ensures (waited_once r) (omega (arith, lt)) s0 in
    let s2 = c.in_ok-read_from.ensures (waited_once r) (omega (arith, lt)) s1 in
    record {
      there = (
        with_front (text_of s2.judge.client) (turned_once r),
        cleared g.C.Attendant.stands g.L.Link.state g.L.Link.leads (turned_once r) (text_of s2.judge.client) c.read_from.new.core c.write_lines.new.core c.read_from.new.link c.read_from.new.watch at_writes s2
            (c.in_ok-write_lines.ensures.lines r.front s2.judge.client s2.stood).3,
      );
    }

pub returns-in_err-wait_once : goal.returns-in_err-wait_once
returns-in_err-wait_once g c = λ r old lt l.
    turn-err g.C.Attendant.stands g.L.Link.state g.L.Link.leads (turned_once r) c.in_err-wait_once.field-0.0 c.from_residual.result c.args.core.now c.wait_once.new.link c.wait_once.new.watch old (g.K.Sink.state c.args.out.now) c.from_residual.ensures.1
    (step-ends g.C.Attendant.stands g.L.Link.state g.L.Link.leads r c.in_err-wait_once.field-0.0 c.args.core.now c.wait_once.new.link l.front (r.waits + 1) r.reads old (g.K.Sink.state c.args.out.now)
    (c.in_err-wait_once.ensures (with_front l.front r) lt l.stage) l.wrote)

pub returns-in_err-ask_moment : goal.returns-in_err-ask_moment
returns-in_err-ask_moment g c = λ r old lt l.
    let s0 = c.in_ok-wait_once.ensures (with_front l.front r) lt l.stage in
    turn-err g.C.Attendant.stands g.L.Link.state g.L.Link.leads (turned_once r) c.in_err-ask_moment.field-0.0 c.from_residual-in_err-ask_moment.result c.ask_moment.new.core c.ask_moment.new.link c.ask_moment.new.watch old (g.K.Sink.state c.args.out.now) c.from_residual-in_err-ask_moment.ensures.1
    (step-ends g.C.Attendant.stands g.L.Link.state g.L.Link.leads r c.in_err-ask_moment.field-0.0 c.ask_moment.new.core c.ask_moment.new.link l.front (r.waits + 1) r.reads old (g.K.Sink.state c.args.out.now)
    (c.in_err-ask_moment.ensures (waited_once (with_front l.front r)) (omega (arith, lt)) s0) l.wrote)

pub returns-in_err-read_from : goal.returns-in_err-read_from
returns-in_err-read_from g c = λ r old lt l.
    let s0 = c.in_ok-wait_once.ensures (with_front l.front r) lt l.stage in
    let s1 = c.in_ok-ask_moment.ensures (waited_once (with_front l.front r)) (omega (arith, lt)) s0 in
    turn-err g.C.Attendant.stands g.L.Link.state g.L.Link.leads (turned_once r) c.in_err-read_from.field-0.0 c.from_residual-in_err-read_from.result c.read_from.new.core c.read_from.new.link c.read_from.new.watch old (g.K.Sink.state c.args.out.now) c.from_residual-in_err-read_from.ensures.1
    (step-ends g.C.Attendant.stands g.L.Link.state g.L.Link.leads r c.in_err-read_from.field-0.0 c.read_from.new.core c.read_from.new.link l.front (r.waits + 1) (r.reads + 1) old (g.K.Sink.state c.args.out.now)
    (c.in_err-read_from.ensures (waited_once (with_front l.front r)) (omega (arith, lt)) s1) l.wrote)

pub returns-in_err-write_lines : goal.returns-in_err-write_lines
returns-in_err-write_lines g c = λ r old lt l.
    let s0 = c.in_ok-wait_once.ensures (with_front l.front r) lt l.stage in
    let s1 = c.in_ok-ask_moment.ensures (waited_once (with_front l.front r)) (omega (arith, lt)) s0 in
    let s2 = c.in_ok-read_from.ensures (waited_once (with_front l.front r)) (omega (arith, lt)) s1 in
    turn-err g.C.Attendant.stands g.L.Link.state g.L.Link.leads (turned_once r) c.in_err-write_lines.field-0.0 c.from_residual-in_err-write_lines.result c.write_lines.new.core c.read_from.new.link c.read_from.new.watch old (g.K.Sink.state c.write_lines.new.out) c.from_residual-in_err-write_lines.ensures.1
    (lines-break g.C.Attendant.stands g.L.Link.state g.L.Link.leads (turned_once r) c.in_err-write_lines.field-0.0 l.front c.read_from.new.core c.write_lines.new.core c.read_from.new.link c.read_from.new.watch at_writes old (g.K.Sink.state c.args.out.now) (g.K.Sink.state c.write_lines.new.out) (omega (arith, lt))
    s2 l.wrote c.in_err-write_lines.ensures.lines)

pub returns : goal.returns
returns g c = λ r old lt l.
    let s0 = c.in_ok-wait_once.ensures (with_front l.front r) lt l.stage in
    let s1 = c.in_ok-ask_moment.ensures (waited_once (with_front l.front r)) (omega (arith, lt)) s0 in
    let s2 = c.in_ok-read_from.ensures (waited_once (with_front l.front r)) (omega (arith, lt)) s1 in
    let k = lines-clear g.C.Attendant.stands g.L.Link.state g.L.Link.leads (turned_once r) l.front c.read_from.new.core c.write_lines.new.core c.read_from.new.link c.read_from.new.watch at_writes old (g.K.Sink.state c.args.out.now) (g.K.Sink.state c.write_lines.new.out) s2 l.wrote c.in_ok-write_lines.ensures.lines in
    last-step g.C.Attendant.stands g.L.Link.state g.L.Link.leads (turned_once r) c.write_to.result c.write_to.new.core c.write_to.new.link c.write_to.new.watch k.front old (g.K.Sink.state c.write_lines.new.out)
    (c.write_to.ensures (with_front k.front (turned_once r)) (omega (arith, lt)) k.stage) k.wrote
