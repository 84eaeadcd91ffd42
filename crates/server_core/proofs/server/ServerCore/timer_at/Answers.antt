use Rattle.std.specs.Prelude.{ℕ, Option}
use Rattle.std.specs.Option.{option_to_list}
use Rattle.std.proofs.Common.{subst}
use Rattle.machine.specs.Combining.{for_each}
use Rattle.server_core.specs.Standing.{Stands}
use Rattle.server_core.specs.Timing.{for_one}
use Rattle.server_core.proofs.server.ServerCore.timer_at.Goals as goal

pub returns : goal.returns
returns c = λ b s h. subst (λ (o : Option ℕ). Stands b c.timer_of.new.self (for_each (option_to_list o) (for_one c.args.timer) s)) (c.in-Some.ensures b s h) (c.in_ok-timer_of.ensures b s h)

pub returns-in_default : goal.returns-in_default
returns-in_default c = λ b s h. subst (λ (o : Option ℕ). Stands b c.args.self.now (for_each (option_to_list o) (for_one c.args.timer) s)) (c.in_default.ensures b s h) h
