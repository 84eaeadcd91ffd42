use Rattle.std.proofs.Common.{sym, subst, ap, List}
use Rattle.hub_acts.specs.declared.act.Act.{Act}
use Rattle.hub_mem.specs.Tallies.{Recorded}
use Rattle.hub_mem.specs.Standing.{IsSound}
use Rattle.hub_mem.proofs.SoundHubs.{sound-turn}
use Rattle.hub_mem.proofs.memory_hub.MemoryHub.wait_for_turn.Goals as goal

pub invariant_of-self : goal.invariant_of-self
invariant_of-self c =
    let fields = c.self.inside in
    subst (λ (acts : List Act). IsSound c.advance.new.self acts) (ap (λ (r : Recorded). r.acts) (sym c.in-Ok-add.ensures.ok)) (sound-turn fields.playback c.advance.new.self fields.ledger.acts c.args.ms c.in-Ok.marks c.self.invariant c.advance.ensures)
