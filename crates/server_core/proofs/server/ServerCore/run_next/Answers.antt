use Rattle.std.specs.Prelude.{◌<◌, length}
use Rattle.std.proofs.Common.{rules, ap, subst}
use Rattle.server_core.proofs.NextLine.{run-some}
use Rattle.server_core.proofs.server.ServerCore.run_next.Goals as goal

pub returns : goal.returns
returns c =
    let lt : c.args.self.now.ran < length c.lines.result.now = search rules in
    run-some c.args.self.now c.pass_line.new.self c.does.new.self c.part_slow.new.self (subst (λ n. c.args.self.now.ran < n) (ap length c.lines.ensures.lines) lt) c.pass_line.ensures.leads c.pass_line.ensures.script c.in_ok-does.ensures c.in_ok-part_slow.ensures
