use Rattle.std.proofs.Common.{rules}
use Rattle.std.proofs.lemmas.Fn.{filter_same}
use Rattle.engine_loop.proofs.watch.Watch.close.Goals as goal

pub returns-clause-streams : goal.returns-clause-streams
returns-clause-streams c = filter_same _ _ _ (λ x b f k. search rules) _ _ c.retain.ensures.filtered
