use Rattle.generated_run.proofs.Sums.{comes-whole}
use Rattle.generated_run.proofs.counting.count_run.Goals as goal

pub returns-in-Quit : goal.returns-in-Quit
returns-in-Quit c =
    comes-whole c.args.config c.args.script c.args.trace c.replay_with_switches-end.result.0
    c.replay_with_switches-end.result.1 c.frames.result c.queued.result c.taken.result
    c.new-tally.result c.replay_with_switches-end.new.out c.new-tally.ensures c.frames.ensures
    c.queued.ensures c.taken.ensures c.replay_with_switches-end.ensures.replayed c.in-Quit.is
