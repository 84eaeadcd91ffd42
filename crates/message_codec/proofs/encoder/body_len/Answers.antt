use Rattle.std.proofs.Common.{arith}
use Rattle.message_codec.specs.Fields.{spelled}
use Rattle.message_codec.specs.FieldViews.{seen}
use Rattle.message_codec.specs.Table.{code_of, fields}
use Rattle.message_codec.proofs.CodeTexts.{text_is_short}
use Rattle.message_codec.proofs.Putting.{length-flat_map_take}
use Rattle.message_codec.proofs.Narrow.{fields_before}
use Rattle.message_codec.proofs.encoder.body_len.Goals as goal

pub overflow_add-len : goal.overflow_add-len
overflow_add-len c =
    omega (
      arith,
      text_is_short (code_of c.args.msg.now),
      fields_before c.args.msg.now c.loop-i.i (omega arith),
    )

pub loop-i-preserved : goal.loop-i-preserved
loop-i-preserved c =
    omega (
      arith,
      length-flat_map_take spelled (fields c.args.msg.now) c.loop-i.i (seen c.field.result)
          c.field.ensures,
    )
