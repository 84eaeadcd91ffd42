use Rattle.hub_mem.proofs.PlayedCalls.{listened}
use Rattle.hub_mem.proofs.AddedActs.{hub-calls}
use Rattle.hub_mem.proofs.hub_calls.MemoryHubHub.listen.Goals as goal

pub returns-clause-calls : goal.returns-clause-calls
returns-clause-calls c = hub-calls _ _ _ c.play_listen.ensures.after

pub returns-clause-leads : goal.returns-clause-leads
returns-clause-leads c = listened c.args.port _ _ _ c.play_listen.ensures
