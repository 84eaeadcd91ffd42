use Rattle.std.proofs.Common.{◌≡◌, ◌-◌, length, take, drop, arith, ◌∙◌, ap}
use Rattle.std.proofs.lemmas.List.{take_all, length-drop}
use Rattle.wire_frames.proofs.First.{gives_frame}
use Rattle.wire_frames.proofs.framer.Framer.peek.Goals as goal

pub returns-clause-answers : goal.returns-clause-answers
returns-clause-answers c =
    let i = c.self.inside in
    let n = c.first_length-len.result in
    let shown = take (length c.deref.result.now - i.given) (drop i.given c.deref.result.now) in
    let same : shown ≡ drop i.given i.bytes.items =
    take_all (length c.deref.result.now - i.given) (drop i.given c.deref.result.now)
    (omega (arith, length-drop i.given c.deref.result.now))
    ∙ ap (drop i.given) c.deref.ensures.value in
    let given = gives_frame c.args.self.now i.gone i.given n i.limit i.over i.bytes.items shown
    c.self.view_is same c.first_length-len.ensures.spelled c.first_length-len.ensures.value
    c.if-self-len.false (omega arith) c.self.invariant.3 in
    (given.place, given.not_over, given.first)
