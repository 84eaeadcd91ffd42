use Rattle.std.proofs.Common.{sym, subst, ap, List}
use Rattle.hub_acts.specs.declared.act.Act.{Act}
use Rattle.hub_mem.specs.Tallies.{Recorded}
use Rattle.hub_mem.specs.Standing.{IsSound, Stage}
use Rattle.hub_mem.proofs.SoundHubs.{sound-read}
use Rattle.hub_mem.proofs.memory_hub.MemoryHub.read_some.Goals as goal

pub invariant_of-self : goal.invariant_of-self
invariant_of-self c =
    let fields = c.self.inside in
    subst (λ (acts : List Act). IsSound c.skip.new.self acts) (ap (λ (r : Recorded). r.acts) (sym c.in-Ok-add.ensures.ok))
    (sound-read fields.playback c.skip.new.self fields.ledger.acts _ _ _ _ c.self.invariant c.skip.ensures.table (ap (λ (g : Stage). g.lines) c.skip.ensures.same) (ap (λ (g : Stage). g.at) c.skip.ensures.same))
