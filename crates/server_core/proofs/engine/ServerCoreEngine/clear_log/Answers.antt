use Rattle.std.specs.Prelude.{ℕ, List}
use Rattle.std.proofs.Common.{sym, subst}
use Rattle.server_engine.specs.Engines.{ClearsLog}
use Rattle.server_core.specs.Driving.{serves_in, departs_in}
use Rattle.server_core.proofs.Driven.{serves-cleared, departs-cleared}
use Rattle.server_core.proofs.Promised.{clears-running, clears-at-end}
use Rattle.server_core.proofs.engine.ServerCoreEngine.clear_log.Goals as goal

pub returns-clause-serves : goal.returns-clause-serves
returns-clause-serves c = subst (λ (text : List ℕ). ClearsLog serves_in c.args.self.now (record c.args.self.now { log = text })) (sym c.clear.ensures) (serves-cleared c.args.self.now)

pub returns-clause-departs : goal.returns-clause-departs
returns-clause-departs c = subst (λ (text : List ℕ). ClearsLog departs_in c.args.self.now (record c.args.self.now { log = text })) (sym c.clear.ensures) (departs-cleared c.args.self.now)

pub returns-clause-laws : goal.returns-clause-laws
returns-clause-laws c = clears-running c.args.self.now _ (returns-clause-serves c)

pub returns-clause-laws_at_end : goal.returns-clause-laws_at_end
returns-clause-laws_at_end c = clears-at-end c.args.self.now _ (returns-clause-departs c)
