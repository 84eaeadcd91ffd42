use Rattle.link_mem.proofs.LinkCalled.{link-calls, link-read-on}
use Rattle.link_mem.proofs.link_calls.MemoryLinkLink.read.Goals as goal

pub returns-clause-calls : goal.returns-clause-calls
returns-clause-calls c = link-calls _ _ _ c.play_read.ensures.plays.after

pub returns-clause-leads : goal.returns-clause-leads
returns-clause-leads c = link-read-on _ _ _ _ _ c.play_read.ensures.plays
