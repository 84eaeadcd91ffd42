use Rattle.std.specs.Prelude.{refl}
use Rattle.hello_states.specs.Phases.{Joined, after_hearing_in}
use Rattle.machine.specs.Screens.{change}
use Rattle.machine.specs.Hearing.{was_heard}
use Rattle.server_core.proofs.Known.{phase-changed}
use Rattle.server_core.proofs.server.ServerCore.hear_joined.Goals as goal

pub returns : goal.returns
returns c = λ joined b s p h. c.in_ok-hear_counted.ensures joined b (change c.args.serial (was_heard s.at) s) (phase-changed s c.args.serial (was_heard s.at) (λ x. after_hearing_in x s.at) (Joined joined) (λ d. refl) (λ d. refl) p) (c.count_heard.ensures b s h)
