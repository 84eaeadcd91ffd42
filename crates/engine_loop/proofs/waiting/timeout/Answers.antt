use Rattle.std.specs.Prelude.{◌≡◌, ℕ, Bool, true, false, ◌||◌, ◌-◌, cond, min, nat_le}
use Rattle.std.proofs.Common.{arith, ap, sym, ◌∙◌}
use Rattle.machine.specs.Queues.{total}
use Rattle.machine.specs.Readings.{due}
use Rattle.attentive_acts.specs.Flags as flags
use Rattle.engine_loop.specs.Watches.{flags_of}
use Rattle.engine_loop.proofs.BusyOnes.{soon-wait}
use Rattle.engine_loop.proofs.waiting.timeout.Goals as goal

pub returns-then-is_busy-clause-value : goal.returns-then-is_busy-clause-value
returns-then-is_busy-clause-value g c = λ o latest front s h k e.
    let busy : flags.is_busy (flags_of (total s.routed) c.args.watch.now) s ≡ true = sym (c.is_busy.ensures o latest front s h k e) ∙ c.if-is_busy.true in
    let wait : Bool → ℕ = λ b. cond (b || nat_le (due s) s.at) 0 (min 1000 (due s - s.at)) in
    sym (ap wait busy)

pub returns-clause-value : goal.returns-clause-value
returns-clause-value g c = λ o latest front s h k e.
    let idle : flags.is_busy (flags_of (total s.routed) c.args.watch.now) s ≡ false = sym (c.is_busy.ensures o latest front s h k e) ∙ c.if-is_busy.false in
    let a : c.due.result ≡ due s = c.due.ensures o latest front s h k in
    let b : c.at.result ≡ s.at = c.at.ensures o latest front s h k in
    let wait : c.min.result ≡ min 1000 (due s - s.at) = omega (arith, a, b, c.saturating_sub.ensures, c.min.ensures) in
    soon-wait (flags.is_busy (flags_of (total s.routed) c.args.watch.now) s) (due s) s.at c.min.result idle wait
