use Rattle.std.proofs.Common.{length, ap, arith}
use Rattle.std.specs.Fmt.{decimal}
use Rattle.std.proofs.lemmas.List.{length-append}
use Rattle.share_base.proofs.Digits.{digits_of_four}
use Rattle.share_base.proofs.decimal.put_u32.Goals as goal

pub put_digits-requires : goal.put_digits-requires
put_digits-requires g c = omega (arith, digits_of_four c.args.number (omega arith))

pub returns-clause-bound : goal.returns-clause-bound
returns-clause-bound g c =
    omega (
      arith,
      digits_of_four c.args.number (omega arith),
      ap length c.put_digits.ensures.printed,
      length-append (g.B.Buffer.content c.args.out.now) (decimal c.args.number),
    )
