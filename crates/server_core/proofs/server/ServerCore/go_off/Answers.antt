use Rattle.std.proofs.Common.{sym, subst}
use Rattle.server_core.specs.declared.timers.Timer.{Timer}
use Rattle.server_core.specs.Standing.{Stands}
use Rattle.server_core.specs.Timing.{rule_of}
use Rattle.server_core.proofs.Open.{lives-open}
use Rattle.server_core.proofs.Come.{come-lives}
use Rattle.server_core.proofs.server.ServerCore.go_off.Goals as goal

pub returns-in_ok-beat-in-Beat : goal.returns-in_ok-beat-in-Beat
returns-in_ok-beat-in-Beat c = λ b s come h. subst (λ (t : Timer). Stands b c.beat.new.self (rule_of t c.args.serial s)) (sym c.in-Beat.is) (c.in_ok-beat-in-Beat.ensures b s (lives-open s c.args.serial (come-lives c.args.timer c.args.serial s come)) h)
