use Rattle.std.specs.Prelude.{fold, take}
use Rattle.attentive_acts.specs.Flags.{with_mark}
use Rattle.engine_loop.specs.Watches.{Sets}
use Rattle.engine_loop.proofs.watch.Watch.heed_all.Given as goal

abbrev pub invariant-loop-mark : goal.invariant-loop-mark
invariant-loop-mark l = Sets l.fn.self l.self (λ fs. fold with_mark fs (take l.mark-index l.marks))
