use Rattle.std.proofs.Common.{sym, subst, ap, List}
use Rattle.hub_acts.specs.declared.act.Act.{Act}
use Rattle.hub_mem.specs.Tallies.{Recorded}
use Rattle.link_mem.specs.LinkStanding.{LinkIsSound}
use Rattle.link_mem.proofs.SoundLinks.{sound-read}
use Rattle.link_mem.proofs.memory_link.MemoryLink.read_some.Goals as goal

pub invariant_of-self : goal.invariant_of-self
invariant_of-self c =
    let fields = c.self.inside in
    subst (λ (acts : List Act). LinkIsSound c.skip.new.self acts) (ap (λ (r : Recorded). r.acts) (sym c.in-Ok-add.ensures.ok))
    (sound-read fields.playback c.skip.new.self fields.ledger.acts _ _ _ c.self.invariant c.skip.ensures)
