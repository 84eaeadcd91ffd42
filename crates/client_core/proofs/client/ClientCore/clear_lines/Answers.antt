use Rattle.std.proofs.Common.{refl}
use Rattle.client_core.proofs.Streams.{cleared}
use Rattle.client_core.proofs.client.ClientCore.clear_lines.Goals as goal

pub returns-clause-clears : goal.returns-clause-clears
returns-clause-clears c = λ k front h. cleared c.args.self.now.reader c.args.self.now.hearer _ c.args.self.now.done k front c.clear_lines.ensures.shows refl h
