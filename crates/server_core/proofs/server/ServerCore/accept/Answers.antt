use Rattle.std.specs.Prelude.{◌≡◌, true, false, nat_le, length}
use Rattle.std.proofs.Common.{arith, ap, ◌∙◌, subst}
use Rattle.machine.specs.Targets.{Own}
use Rattle.machine.specs.States.{State}
use Rattle.machine.specs.Acceptance.{opened, most_open}
use Rattle.connection_table.specs.Standing.{StandsFor}
use Rattle.connection_table.proofs.Pairs.{pairs-length}
use Rattle.server_core.specs.Standing.{Stands, around}
use Rattle.server_core.proofs.Open.{lives-open}
use Rattle.server_core.proofs.Added.{new-lives, full-or-greeted, at-most, above-most}
use Rattle.server_core.proofs.server.ServerCore.accept.Goals as goal

pub returns-then-count-ge-MOST_OPEN : goal.returns-then-count-ge-MOST_OPEN
returns-then-count-ge-MOST_OPEN c = λ b s blank is_new h.
    let many : length c.as_slice-count.result.now ≡ length s.connections = ap length c.as_slice-count.ensures ∙ pairs-length (StandsFor (around b s)) 0 c.args.self.now.table s.connections h.connections in
    let over = c.if-count-ge-MOST_OPEN.true in
    let full : nat_le most_open (length s.connections) ≡ true = at-most most_open (length s.connections) (omega arith) in
    subst (λ (t : State). Stands b c.part.new.self t) (full-or-greeted c.args.serial s true full) (c.in_ok-part.ensures b (opened c.args.serial s) (new-lives c.args.serial s is_new) (c.in_ok-add_connection.ensures b s blank is_new h))

pub returns : goal.returns
returns c = λ b s blank is_new h.
    let many : length c.as_slice-count.result.now ≡ length s.connections = ap length c.as_slice-count.ensures ∙ pairs-length (StandsFor (around b s)) 0 c.args.self.now.table s.connections h.connections in
    let under = c.if-count-ge-MOST_OPEN.false in
    let few : nat_le most_open (length s.connections) ≡ false = above-most most_open (length s.connections) (omega arith) in
    subst (λ (t : State). Stands b c.route.new.self t) (full-or-greeted c.args.serial s false few) (c.in_ok-route.ensures Own b (opened c.args.serial s) (lives-open (opened c.args.serial s) c.args.serial (new-lives c.args.serial s is_new)) (c.in_ok-add_connection.ensures b s blank is_new h))
