use Rattle.std.proofs.Common.{arith, rules}
use Rattle.system_streams.proofs.Adapters.{reads_the_end}
use Rattle.system_streams.proofs.real.StdSourceSource.read.Goals as goal

pub returns-in-Ok-eq0-clause-known : goal.returns-in-Ok-eq0-clause-known
returns-in-Ok-eq0-clause-known g c =
    reads_the_end (g.R.Read.remaining c.args.self.now.reader) (g.R.Read.remaining c.loop.self.reader) (g.R.Read.remaining c.read.new.self)
    (c.loop.invariant).1 (search rules) (search (arith, rules))
