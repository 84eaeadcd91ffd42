use Rattle.std.proofs.Common.{sym, subst, ap, List}
use Rattle.hub_acts.specs.declared.act.Act.{Act}
use Rattle.hub_mem.specs.Tallies.{Recorded}
use Rattle.link_mem.specs.LinkStanding.{LinkIsSound}
use Rattle.link_mem.proofs.SoundLinks.{sound-quiet}
use Rattle.link_mem.proofs.memory_link.MemoryLink.add_quiet.Goals as goal

pub invariant_of-self-2 : goal.invariant_of-self-2
invariant_of-self-2 c =
    let fields = c.self.inside in
    subst (λ (acts : List Act). LinkIsSound fields.playback acts) (ap (λ (r : Recorded). r.acts) (sym c.in_ok-add.ensures.ok))
    (sound-quiet fields.playback fields.ledger.acts c.args.act c.self.invariant c.requires)
