use Rattle.std.specs.Prelude.{ℕ, not, ◌==◌}
use Rattle.std.proofs.Common.{ap}
use Rattle.server_core.proofs.server.ServerCore.may_switch.Goals as goal

pub returns : goal.returns
returns c = λ b s h. ap (λ (n : ℕ). not (n == 4294967295)) h.sequence
