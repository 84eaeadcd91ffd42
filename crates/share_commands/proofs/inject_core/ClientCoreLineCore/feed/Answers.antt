use Rattle.std.proofs.Common.{arith}
use Rattle.message_reader.proofs.Stepping.{all_bytes}
use Rattle.client_core.proofs.Injections.{grows}
use Rattle.share_commands.proofs.Injection.{goes_on, feeds}
use Rattle.share_commands.proofs.inject_core.ClientCoreLineCore.feed.Goals as goal

pub returns : goal.returns
returns c =
    let goes = goes_on c.args.self.now.done c.requires.goes in
    let small = all_bytes c.args.piece.now (λ i. omega (arith, c.type_inv.piece i)) in
    feeds c.args.self.now c.bytes.new.self c.args.piece.now (grows c.args.self.now c.bytes.new.self c.bytes.result c.args.piece.now small goes c.bytes.ensures.role (c.bytes.ensures.gets goes))
