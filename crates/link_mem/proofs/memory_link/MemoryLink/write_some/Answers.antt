use Rattle.std.proofs.Common.{sym, subst, ap, List}
use Rattle.hub_acts.specs.declared.act.Act.{Act}
use Rattle.hub_mem.specs.Tallies.{Recorded}
use Rattle.link_mem.specs.LinkStanding.{LinkIsSound}
use Rattle.link_mem.proofs.SoundLinks.{sound-write}
use Rattle.link_mem.proofs.memory_link.MemoryLink.write_some.Goals as goal

pub invariant_of-self : goal.invariant_of-self
invariant_of-self c =
    let fields = c.self.inside in
    subst (λ (acts : List Act). LinkIsSound c.take.new.self acts) (ap (λ (r : Recorded). r.acts) (sym c.in-Ok-add.ensures.ok))
    (sound-write fields.playback c.take.new.self fields.ledger.acts _ _ c.self.invariant c.take.ensures)
