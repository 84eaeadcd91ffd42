use Rattle.client_loop.specs.Attending.{first_course}
use Rattle.client_loop.proofs.attending.attend.Goals as goal

pub returns : goal.returns
returns g c = λ first is_new stood.
    c.leave.ensures (first_course first c.args.link.now c.args.turns) (g.K.Sink.state c.args.out.now) is_new (c.run_turns-end.ensures first is_new stood)
