use Rattle.std.proofs.Common.{refl, sym, subst, true}
use Rattle.hub_acts.specs.declared.marks.Mark.{Mark}
use Rattle.attentive_acts.specs.Flags.{with_mark}
use Rattle.engine_loop.specs.Watches.{Sets}
use Rattle.engine_loop.proofs.WatchFlags.{sets-mark}
use Rattle.engine_loop.proofs.watch.Watch.heed.Goals as goal

pub returns-in-Accept : goal.returns-in-Accept
returns-in-Accept c = subst (λ (m : Mark). Sets c.args.self.now (record { listens = true; streams = c.args.self.now.streams }) (λ fs. with_mark fs m)) (sym c.in-Accept.is) (record { flags = λ totals. refl; serials = refl; seen = λ totals few. few })

pub returns-in-Stream : goal.returns-in-Stream
returns-in-Stream c = subst (λ (m : Mark). Sets c.args.self.now c.change.new.self (λ fs. with_mark fs m)) (sym c.in-Stream.is) (sets-mark c.args.self.now c.change.new.self c.in-Stream.serial c.in-Stream.readable c.in-Stream.writable (c.change.ensures.streams, c.change.ensures.listens))
