use Rattle.std.proofs.Common.{sym, subst, ap, List}
use Rattle.hub_acts.specs.declared.act.Act.{Act}
use Rattle.hub_mem.specs.Tallies.{Recorded}
use Rattle.link_mem.specs.LinkStanding.{LinkIsSound}
use Rattle.link_mem.proofs.SoundLinks.{sound-turn}
use Rattle.link_mem.proofs.memory_link.MemoryLink.wait_for_turn.Goals as goal

pub invariant_of-self : goal.invariant_of-self
invariant_of-self c =
    let fields = c.self.inside in
    subst (λ (acts : List Act). LinkIsSound c.advance.new.self acts) (ap (λ (r : Recorded). r.acts) (sym c.in-Ok.ensures.ok))
    (sound-turn fields.playback c.advance.new.self fields.ledger.acts c.args.ms c.args.answer c.requires c.self.invariant c.advance.ensures)
