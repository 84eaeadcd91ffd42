use Rattle.std.proofs.Common.{arith}
use Rattle.share_base.proofs.Digits.{digits_of_eight}
use Rattle.share_base.proofs.decimal.put_digits.Goals as goal

pub write_digits-start-requires : goal.write_digits-start-requires
write_digits-start-requires g c = (digits_of_eight c.args.number (omega arith), omega arith)
