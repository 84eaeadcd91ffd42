use Rattle.link_mem.proofs.LinkCalled.{link-calls, link-waited-on}
use Rattle.link_mem.proofs.link_calls.MemoryLinkLink.wait.Goals as goal

pub returns-clause-calls : goal.returns-clause-calls
returns-clause-calls c = link-calls _ _ _ c.play_wait.ensures.after

pub returns-clause-leads : goal.returns-clause-leads
returns-clause-leads c = link-waited-on c.args.ms _ _ _ c.play_wait.ensures
