use Rattle.std.proofs.Common.{arith}
use Rattle.clip_chunks.proofs.Sizes.{one_more}
use Rattle.clip_chunks.proofs.size.number.Goals as goal

pub overflow_mul-number : goal.overflow_mul-number
overflow_mul-number c =
    let step =
    one_more c.args.digits.now c.loop-digit.digit-index (omega arith) c.requires.short
    c.requires.digits in
    omega (arith, c.loop-digit.invariant, step.small)

pub overflow_add-number : goal.overflow_add-number
overflow_add-number c =
    let step =
    one_more c.args.digits.now c.loop-digit.digit-index (omega arith) c.requires.short
    c.requires.digits in
    omega (arith, c.loop-digit.invariant, step.small, step.high)

pub loop-digit-preserved : goal.loop-digit-preserved
loop-digit-preserved c =
    let step =
    one_more c.args.digits.now c.loop-digit.digit-index (omega arith) c.requires.short
    c.requires.digits in
    omega (arith, c.loop-digit.invariant, step.more)
