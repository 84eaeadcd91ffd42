use Rattle.std.specs.Prelude.{false, take, ◌||◌}
use Rattle.std.specs.List.{list_any}
use Rattle.attentive_acts.specs.Flags.{is_readable, is_writable}
use Rattle.engine_loop.specs.declared.watch.Stream.{Stream}
use Rattle.engine_loop.specs.Stages.{Answers}
use Rattle.engine_loop.proofs.waiting.is_busy.Given as goal

abbrev pub invariant-loop-stream : goal.invariant-loop-stream
invariant-loop-stream g l = Answers g.E.Engine.serves l.core l.watch false (λ fs s. list_any (λ (t : Stream). is_readable fs s t.serial || is_writable fs s t.serial) (take l.stream-index l.watch.streams.items))
