use Rattle.machine.specs.Readings.{accepts}
use Rattle.engine_loop.proofs.BusyOnes.{first-fails, second-decides}
use Rattle.engine_loop.proofs.waiting.is_listening.Goals as goal

pub returns-then-not-watch : goal.returns-then-not-watch
returns-then-not-watch g c = λ o latest front s h k e. first-fails c.args.watch.now.listens (accepts s) c.if-not-watch.true

pub returns : goal.returns
returns g c = λ o latest front s h k e. second-decides c.args.watch.now.listens (accepts s) c.accepts.result c.if-not-watch.false (c.accepts.ensures o latest front s h k)
