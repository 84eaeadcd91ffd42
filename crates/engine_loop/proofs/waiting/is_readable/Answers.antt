use Rattle.std.proofs.Common.{sym, ◌∙◌}
use Rattle.machine.specs.Queues.{total}
use Rattle.machine.specs.Readings.{reads}
use Rattle.attentive_acts.specs.Flags.{has_flag}
use Rattle.engine_loop.specs.Watches.{flags_of}
use Rattle.engine_loop.proofs.WatchFlags.{reads-flag}
use Rattle.engine_loop.proofs.BusyOnes.{first-fails, second-decides}
use Rattle.engine_loop.proofs.waiting.is_readable.Goals as goal

pub returns-then-not-may_read : goal.returns-then-not-may_read
returns-then-not-may_read g c = λ o latest front s h k e.
    first-fails (has_flag (λ f. f.reads) c.args.serial (flags_of (total s.routed) c.args.watch.now)) (reads s c.args.serial)
    (sym (reads-flag c.args.watch.now c.args.serial (total s.routed)) ∙ sym c.may_read.ensures ∙ c.if-not-may_read.true)

pub returns : goal.returns
returns g c = λ o latest front s h k e.
    second-decides (has_flag (λ f. f.reads) c.args.serial (flags_of (total s.routed) c.args.watch.now)) (reads s c.args.serial) c.reads.result
    (sym (reads-flag c.args.watch.now c.args.serial (total s.routed)) ∙ sym c.may_read.ensures ∙ c.if-not-may_read.false) (c.reads.ensures o latest front s h k)
