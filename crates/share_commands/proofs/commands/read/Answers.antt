use Rattle.std.proofs.Common.{arith}
use Rattle.message_reader.proofs.Stepping.{all_bytes}
use Rattle.share_commands.proofs.commands.read.Goals as goal

pub returns-clause-bytes : goal.returns-clause-bytes
returns-clause-bytes g c = all_bytes _ (λ i. omega (arith, c.type_inv.buf i))
