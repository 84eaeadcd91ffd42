use Rattle.std.specs.Prelude.{◌≡◌, ℕ, List, length, ◌++◌}
use Rattle.std.proofs.Common.{arith, ap, ◌∙◌}
use Rattle.screen_config.specs.Configurations.{Configuration}
use Rattle.machine.specs.States.{Join}
use Rattle.machine.specs.Information.{name_of}
use Rattle.machine.specs.Logs.{log_line}
use Rattle.server_core.proofs.Changed.{stands-logged}
use Rattle.server_core.proofs.Options.{named-so}
use Rattle.server_core.proofs.server.ServerCore.log_join.Goals as goal

pub returns : goal.returns
returns c = λ b s lt h.
    let named : c.name.result.now ≡ name_of s c.args.screen.0 = named-so c.args.self.now.config s c.args.screen.0 c.name.result.now h.config c.name.ensures in
    stands-logged b c.args.self.now s c.joined.new.self (Join c.args.serial (name_of s c.args.screen.0)) h (c.in_ok-joined.ensures.ok ∙ ap (λ (ns : List ℕ). c.args.self.now.log ++ log_line (Join c.args.serial ns)) named)

pub returns-then-screen-count : goal.returns-then-screen-count
returns-then-screen-count c = λ b s lt h. absurd (let e : length c.args.self.now.config.screens ≡ length s.config.screens = ap (λ (g : Configuration). length g.screens) h.config in omega arith)
