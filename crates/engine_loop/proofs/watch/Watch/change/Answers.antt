use Rattle.std.proofs.Common.{arith}
use Rattle.std.proofs.lemmas.Grind.{common_steps}
use Rattle.std.proofs.lemmas.List.Edits.{map_over_more}
use Rattle.engine_loop.specs.Watches.{changed_one}
use Rattle.engine_loop.proofs.watch.Watch.change.Goals as goal

pub loop-stream-preserved : goal.loop-stream-preserved
loop-stream-preserved c = grind (arith, common_steps, map_over_more (changed_one c.args.serial c.args.change), c.loop-stream.invariant, c.change_one.ensures)
