use Rattle.std.proofs.Common.{sym, subst}
use Rattle.server_engine.specs.Engines.{AreNext}
use Rattle.attentive_acts.specs.Flags.{has_more}
use Rattle.reached_states.proofs.Taken.{taken-is-queued}
use Rattle.server_core.proofs.Offering.{next-untaken}
use Rattle.server_core.proofs.engine.ServerCoreEngine.queued.Goals as goal

pub returns-clause-offers : goal.returns-clause-offers
returns-clause-offers c = λ o latest front s reached h. subst (AreNext (has_more s c.args.serial) s c.args.serial) (sym (c.queued.ensures.untaken h.beside s h.stands)) (next-untaken s c.args.serial (taken-is-queued o latest s c.args.serial reached))
