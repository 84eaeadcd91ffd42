use Rattle.hub_mem.proofs.PlayedCalls.{waited_on}
use Rattle.hub_mem.proofs.AddedActs.{hub-calls}
use Rattle.hub_mem.proofs.hub_calls.MemoryHubHub.wait.Goals as goal

pub returns-clause-calls : goal.returns-clause-calls
returns-clause-calls c = hub-calls _ _ _ c.play_wait.ensures.plays.after

pub returns-clause-leads : goal.returns-clause-leads
returns-clause-leads c = waited_on c.args.ms _ _ _ _ c.play_wait.ensures.plays
