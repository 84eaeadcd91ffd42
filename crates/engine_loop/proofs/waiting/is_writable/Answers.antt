use Rattle.std.specs.Prelude.{◌≡◌, ℕ, List, Contains}
use Rattle.std.proofs.Common.{sym, subst, ◌∙◌}
use Rattle.machine.specs.Queues.{total}
use Rattle.machine.specs.Happenings.{IsOpen}
use Rattle.attentive_acts.specs.Flags.{has_flag, has_more}
use Rattle.engine_loop.specs.Watches.{flags_of}
use Rattle.engine_loop.proofs.OpenOnes.{listed-open}
use Rattle.engine_loop.proofs.WatchFlags.{writes-flag}
use Rattle.engine_loop.proofs.BusyOnes.{first-fails, second-decides}
use Rattle.engine_loop.proofs.waiting.is_writable.Goals as goal

pub returns-then-not-may_write : goal.returns-then-not-may_write
returns-then-not-may_write g c = λ listed o latest front s h k e.
    let is : IsOpen s c.args.serial = listed-open c.args.serial s.connections (subst (λ (ns : List ℕ). Contains ns c.args.serial) e listed) in
    let same : c.total.result ≡ total s.routed c.args.serial = c.total.ensures o latest front s h is k in
    first-fails (has_flag (λ f. f.writes) c.args.serial (flags_of (total s.routed) c.args.watch.now)) (has_more s c.args.serial)
    (sym (writes-flag c.args.watch.now c.args.serial c.total.result (total s.routed) same) ∙ sym c.may_write.ensures ∙ c.if-not-may_write.true)

pub returns : goal.returns
returns g c = λ listed o latest front s h k e.
    let is : IsOpen s c.args.serial = listed-open c.args.serial s.connections (subst (λ (ns : List ℕ). Contains ns c.args.serial) e listed) in
    let same : c.total.result ≡ total s.routed c.args.serial = c.total.ensures o latest front s h is k in
    second-decides (has_flag (λ f. f.writes) c.args.serial (flags_of (total s.routed) c.args.watch.now)) (has_more s c.args.serial) c.has_more.result
    (sym (writes-flag c.args.watch.now c.args.serial c.total.result (total s.routed) same) ∙ sym c.may_write.ensures ∙ c.if-not-may_write.false) (c.has_more.ensures o latest front s h k)
