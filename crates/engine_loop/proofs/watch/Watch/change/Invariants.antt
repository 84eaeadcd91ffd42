use Rattle.std.specs.Prelude.{◌≡◌, ◌++◌, map, take, drop}
use Rattle.engine_loop.specs.Watches.{changed_one}
use Rattle.engine_loop.proofs.watch.Watch.change.Given as goal

abbrev pub invariant-loop-stream : goal.invariant-loop-stream
invariant-loop-stream l = l.stream-items ≡ map (changed_one l.serial l.change) (take l.stream-index l.initial.stream-items) ++ drop l.stream-index l.initial.stream-items
