use Rattle.std.specs.Prelude.{ℕ, ◌<◌, List}
use Rattle.std.proofs.Common.{subst}
use Rattle.machine.specs.Clipboards.{whole}
use Rattle.server_core.specs.Leading.{Leads}
use Rattle.server_core.proofs.Dispatch.{part-goes-on, part-beyond, part-ends}
use Rattle.server_core.proofs.server.ServerCore.hear_part.Goals as goal

pub returns-in_default : goal.returns-in_default
returns-in_default c = part-goes-on c.args.self.now c.take_part.new.self c.args.serial c.args.seq c.args.clip c.args.mark c.args.bytes.now c.in_ok-whole.whole c.in_default.is c.in_ok-whole.ensures.ok

pub returns-then-len-clip_limit : goal.returns-then-len-clip_limit
returns-then-len-clip_limit c = part-beyond c.args.self.now (record c.args.self.now { table = c.take_part.new.self }) c.take_part.new.self c.args.serial c.args.seq c.clip_limit.result c.args.clip c.args.mark c.args.bytes.now c.in-Some.whole c.in_ok-whole.whole c.in-Some.is c.in_ok-whole.ensures.ok c.clip_limit.ensures.limit (subst (λ (n : ℕ). c.clip_limit.result < n) c.len.ensures c.if-len-clip_limit.true)

pub returns : goal.returns
returns c = part-ends c.args.self.now c.whole-2.new.self c.take_part.new.self c.args.serial c.args.seq c.args.clip c.args.mark c.args.bytes.now c.in-Some.whole c.in_ok-whole.whole c.in-Some.is c.in_ok-whole.ensures.ok
    (subst (λ (ns : List ℕ). Leads (record c.args.self.now { table = c.take_part.new.self }) c.whole-2.new.self (whole c.args.clip c.args.serial c.args.seq ns)) c.as_slice.ensures c.in_ok-whole-2.ensures)
