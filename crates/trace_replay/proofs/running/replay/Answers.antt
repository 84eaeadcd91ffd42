use Rattle.trace_replay.proofs.running.replay.Goals as goal

pub returns : goal.returns
returns g c =
    record { replayed = c.replay_with_switches.ensures.replayed.run; ends = c.replay_with_switches.ensures.ends }
