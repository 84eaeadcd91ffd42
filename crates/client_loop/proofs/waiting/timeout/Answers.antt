use Rattle.std.specs.Prelude.{◌≡◌, ℕ, Bool, true, false, ◌||◌, ◌-◌, cond, min, nat_le}
use Rattle.std.proofs.Common.{arith, ap, sym, ◌∙◌}
use Rattle.attentive_links.specs.Flags as flags
use Rattle.attentive_links.specs.Judging.{due, moment, longest_wait}
use Rattle.client_loop.specs.Stages.{flags_of}
use Rattle.client_loop.proofs.WaitSteps.{soon-wait}
use Rattle.client_loop.proofs.waiting.timeout.Goals as goal

pub returns-then-is_busy-clause-value : goal.returns-then-is_busy-clause-value
returns-then-is_busy-clause-value g c = λ front d goes stood.
    let busy : flags.is_busy (flags_of c.args.watch.now) d ≡ true = sym (c.is_busy.ensures front d goes stood) ∙ c.if-is_busy.true in
    let wait : Bool → ℕ = λ b. cond (b || nat_le (due d) (moment d)) 0 (min longest_wait (due d - moment d)) in
    sym (ap wait busy)

pub returns-clause-value : goal.returns-clause-value
returns-clause-value g c = λ front d goes stood.
    let idle : flags.is_busy (flags_of c.args.watch.now) d ≡ false = sym (c.is_busy.ensures front d goes stood) ∙ c.if-is_busy.false in
    let a : c.due.result ≡ due d = c.due.ensures front d stood in
    let b : c.at.result ≡ moment d = c.at.ensures front d stood in
    let wait : c.min.result ≡ min longest_wait (due d - moment d) = omega (arith, a, b, c.saturating_sub.ensures, c.min.ensures) in
    soon-wait (flags_of c.args.watch.now) d c.min.result idle wait
