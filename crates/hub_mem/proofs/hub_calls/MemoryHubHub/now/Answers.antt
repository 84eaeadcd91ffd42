use Rattle.hub_mem.proofs.PlayedCalls.{asked}
use Rattle.hub_mem.proofs.hub_calls.MemoryHubHub.now.Goals as goal

pub returns-clause-leads : goal.returns-clause-leads
returns-clause-leads c = asked _ _ _ c.play_now.ensures
