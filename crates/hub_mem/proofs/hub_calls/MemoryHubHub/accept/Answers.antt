use Rattle.hub_mem.proofs.PlayedCalls.{accepted_on}
use Rattle.hub_mem.proofs.AddedActs.{hub-calls}
use Rattle.hub_mem.proofs.hub_calls.MemoryHubHub.accept.Goals as goal

pub returns-clause-calls : goal.returns-clause-calls
returns-clause-calls c = hub-calls _ _ _ c.play_accept.ensures.plays.after

pub returns-clause-leads : goal.returns-clause-leads
returns-clause-leads c = accepted_on _ _ _ c.play_accept.ensures.plays
