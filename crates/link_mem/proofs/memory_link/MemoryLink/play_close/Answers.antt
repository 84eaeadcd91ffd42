use Rattle.std.proofs.Common.{sym, subst, ap, refl, List}
use Rattle.hub_acts.specs.declared.act.Act.{Act}
use Rattle.hub_mem.specs.Tallies.{Recorded}
use Rattle.hub_acts.specs.declared.act.Act.TheVariants as act
use Rattle.link_mem.specs.LinkStanding.{LinkIsSound}
use Rattle.link_mem.proofs.SoundLinks.{sound-act, closed-acted}
use Rattle.link_mem.proofs.memory_link.MemoryLink.play_close.Goals as goal

pub invariant_of-self-2 : goal.invariant_of-self-2
invariant_of-self-2 c =
    let fields = c.self.inside in
    subst (λ (acts : List Act). LinkIsSound c.close.new.self acts) (ap (λ (r : Recorded). r.acts) (sym c.in_ok-add.ensures.ok))
    (sound-act fields.playback c.close.new.self fields.ledger.acts act.LinkClose refl (closed-acted fields.playback c.close.new.self c.close.ensures) c.self.invariant)
