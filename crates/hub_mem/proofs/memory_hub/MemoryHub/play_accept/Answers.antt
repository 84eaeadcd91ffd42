use Rattle.std.proofs.Common.{sym, subst}
use Rattle.hub_acts.specs.declared.answers.AcceptAnswer.{AcceptAnswer}
use Rattle.hub_acts.specs.declared.act.Act.TheVariants as act
use Rattle.hub_mem.specs.Stories.{joined_in}
use Rattle.hub_mem.specs.Answers.{is_to_fail, story, tally}
use Rattle.hub_mem.specs.Standing.{IsQuiet}
use Rattle.hub_mem.proofs.QuietActs.{quiet-accept}
use Rattle.hub_mem.proofs.memory_hub.MemoryHub.play_accept.Goals as goal

pub add_quiet-requires : goal.add_quiet-requires
add_quiet-requires c =
    let was = c.args.self.now in
    subst (λ (a : AcceptAnswer). IsQuiet (act.Accept a) (joined_in (story was).scenes) (tally was).latest) (sym c.next_accept-answer.ensures)
    (quiet-accept (is_to_fail was) (joined_in (story was).scenes) (tally was).latest)
