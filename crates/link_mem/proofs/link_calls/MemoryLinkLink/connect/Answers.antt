use Rattle.link_mem.proofs.LinkCalled.{link-calls, connected-on}
use Rattle.link_mem.proofs.link_calls.MemoryLinkLink.connect.Goals as goal

pub returns-clause-calls : goal.returns-clause-calls
returns-clause-calls c = link-calls _ _ _ c.play_connect.ensures.after

pub returns-clause-leads : goal.returns-clause-leads
returns-clause-leads c = connected-on c.args.host.now c.args.port _ _ _ c.play_connect.ensures
