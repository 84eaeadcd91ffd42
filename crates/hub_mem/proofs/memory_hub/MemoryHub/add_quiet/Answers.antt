use Rattle.std.proofs.Common.{sym, subst, ap, List}
use Rattle.hub_acts.specs.declared.act.Act.{Act}
use Rattle.hub_mem.specs.Answers.{Played, story, tally}
use Rattle.hub_mem.specs.Stories.{joined_in}
use Rattle.hub_mem.specs.Tallies.{Recorded}
use Rattle.hub_mem.specs.Standing.{IsSound, IsQuiet}
use Rattle.hub_mem.proofs.SoundHubs.{sound-quiet}
use Rattle.hub_mem.proofs.memory_hub.MemoryHub.add_quiet.Goals as goal

pub invariant_of-self-2 : goal.invariant_of-self-2
invariant_of-self-2 c =
    let fields = c.self.inside in
    let quiet = subst (λ (p : Played). IsQuiet c.args.act (joined_in (story p).scenes) (tally p).latest) (sym c.self.view_is) c.requires in
    subst (λ (acts : List Act). IsSound fields.playback acts) (ap (λ (r : Recorded). r.acts) (sym c.in_ok-add.ensures.ok)) (sound-quiet fields.playback fields.ledger.acts c.args.act c.self.invariant quiet)
