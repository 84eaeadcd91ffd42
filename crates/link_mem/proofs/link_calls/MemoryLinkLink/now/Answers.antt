use Rattle.link_mem.proofs.LinkCalled.{link-calls, link-asked}
use Rattle.link_mem.proofs.link_calls.MemoryLinkLink.now.Goals as goal

pub returns-clause-calls : goal.returns-clause-calls
returns-clause-calls c = link-calls _ _ _ c.play_now.ensures.after

pub returns-clause-leads : goal.returns-clause-leads
returns-clause-leads c = link-asked _ _ _ c.play_now.ensures
