use Rattle.link_mem.proofs.LinkCalled.{link-calls, link-closed-on}
use Rattle.link_mem.proofs.link_calls.MemoryLinkLink.close.Goals as goal

pub returns-clause-calls : goal.returns-clause-calls
returns-clause-calls c = link-calls _ _ _ c.play_close.ensures.after

pub returns-clause-leads : goal.returns-clause-leads
returns-clause-leads c = link-closed-on _ _ _ c.play_close.ensures
