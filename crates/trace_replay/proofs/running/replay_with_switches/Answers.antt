use Rattle.trace_replay.proofs.RunTraces.{not_begun_with, replayed_with}
use Rattle.trace_replay.proofs.TraceEnds.{ends_by_trace}
use Rattle.trace_replay.specs.Replaying.{origin_of}
use Rattle.trace_replay.proofs.running.replay_with_switches.Goals as goal

pub returns : goal.returns
returns g c =
    let o = origin_of c.args.config c.args.script in
    let all = replayed_with c.args.config c.args.script c.args.trace c.turns_of-turns.result c.serve-end.result c.sequence.result c.serve-end.new.core _ _ _ _
    c.in-Ok.ensures c.turns_of-turns.ensures.count c.sequence.ensures.leaves (c.serve-end.ensures o c.in-Ok-new.ensures.runs.is_in) in
    record { replayed = all; ends = ends_by_trace c.args.config c.args.script c.args.trace c.serve-end.result _ _ c.turns_of-turns.ensures.sound all.run }

pub returns-in_default : goal.returns-in_default
returns-in_default g c = record { replayed = not_begun_with c.args.config c.args.script c.args.trace (g.K.Sink.state c.args.out.now); ends = tt }

pub serve-end-requires-clause-starts : goal.serve-end-requires-clause-starts
serve-end-requires-clause-starts g c =
    let o = origin_of c.args.config c.args.script in
    (o, c.in-Ok-new.ensures.runs.is_in)
