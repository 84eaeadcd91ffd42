use Rattle.std.specs.Prelude.{◌≡◌, true, false}
use Rattle.std.proofs.Common.{sym, ◌∙◌, subst}
use Rattle.server_core.specs.Standing.{Stands}
use Rattle.server_core.specs.Timing.{has_come, rule_of}
use Rattle.server_core.proofs.Come.{come-one, not-come-one}
use Rattle.server_core.proofs.server.ServerCore.timer_of.Goals as goal

pub returns-then-has_come : goal.returns-then-has_come
returns-then-has_come c = λ b s h.
    let come : has_come c.args.timer c.args.serial s ≡ true = sym (c.has_come.ensures b s h) ∙ c.if-has_come.true in
    subst (λ t. Stands b c.part_slow.new.self t) (sym (come-one c.args.timer c.args.serial s come)) (c.in_ok-part_slow.ensures b (rule_of c.args.timer c.args.serial s) (c.in_ok-go_off.ensures b s come h))

pub returns : goal.returns
returns c = λ b s h.
    let off : has_come c.args.timer c.args.serial s ≡ false = sym (c.has_come.ensures b s h) ∙ c.if-has_come.false in
    subst (λ t. Stands b c.args.self.now t) (sym (not-come-one c.args.timer c.args.serial s off)) h
