use Rattle.hub_mem.proofs.PlayedCalls.{closed_on}
use Rattle.hub_mem.proofs.hub_calls.MemoryHubHub.close.Goals as goal

pub returns-clause-leads : goal.returns-clause-leads
returns-clause-leads c = closed_on c.args.serial _ _ _ c.play_close.ensures
