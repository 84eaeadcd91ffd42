use Rattle.engine_loop.proofs.BusyOnes.{offer-more}
use Rattle.attentive_acts.specs.Flags.{has_more}
use Rattle.engine_loop.proofs.waiting.has_more.Goals as goal

pub returns : goal.returns
returns g c = λ o latest front s h k. offer-more (has_more s c.args.serial) s c.args.serial c.queued.result.now c.is_empty.result (c.queued.ensures.offers o latest front s h k) c.is_empty.ensures
