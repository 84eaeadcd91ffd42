use Rattle.std.proofs.Common.{refl}
use Rattle.client_loop.specs.Attending.{first_course}
use Rattle.client_loop.proofs.Starts.{starts, none-begun}
use Rattle.client_loop.proofs.attending.run_turns.Goals as goal

pub returns-in_default : goal.returns-in_default
returns-in_default g c = λ first is_new stood.
    none-begun g.C.Attendant.stands g.L.Link.state g.L.Link.leads g.L.Link.stays first is_new c.args.core.now stood c.args.link.now c.args.turns (g.K.Sink.state c.args.out.now)

pub take_turns-requires-clause-there : goal.take_turns-requires-clause-there
take_turns-requires-clause-there g c =
    let s = c.requires.starts in (
      first_course s.0 c.args.link.now c.args.turns,
      g.K.Sink.state c.args.out.now,
      refl,
      starts g.C.Attendant.stands g.L.Link.state g.L.Link.leads g.L.Link.stays s.0 s.1 c.args.core.now s.2 c.args.link.now c.args.turns (g.K.Sink.state c.args.out.now) c.new-watch.result c.new-watch.ensures,
    )

pub returns : goal.returns
returns g c = λ first is_new stood.
    c.take_turns.ensures (first_course first c.args.link.now c.args.turns) (g.K.Sink.state c.args.out.now) refl
    (starts g.C.Attendant.stands g.L.Link.state g.L.Link.leads g.L.Link.stays first is_new c.args.core.now stood c.args.link.now c.args.turns (g.K.Sink.state c.args.out.now) c.new-watch.result c.new-watch.ensures)
