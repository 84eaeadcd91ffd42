use Rattle.std.proofs.Common.{◌++◌}
use Rattle.std.proofs.lemmas.Result.{err_from_is_err_and}
use Rattle.message_codec.specs.Fields.{Field}
use Rattle.message_codec.specs.FieldViews.{seen}
use Rattle.message_codec.specs.Showing.{after_blank, shown}
use Rattle.message_codec.specs.Table.{text, code_of, fields}
use Rattle.message_codec.proofs.Putting.{put_more, front_of_loop}
use Rattle.message_codec.proofs.show_line.put_line.Goals as goal

pub loop-i-preserved : goal.loop-i-preserved
loop-i-preserved c =
    put_more (λ (f : Field). after_blank (shown f))
    (c.args.out.now ++ text (code_of c.args.msg.now)) c.loop-i.out c.put_shown.new.out
    (fields c.args.msg.now) c.loop-i.i (seen c.field.result)
    c.loop-i.invariant c.field.ensures c.in_ok-put_shown.ensures.ok

pub returns-in_err-put_shown-clause-err : goal.returns-in_err-put_shown-clause-err
returns-in_err-put_shown-clause-err c =
    let p =
    err_from_is_err_and c.from_residual-in_err-put_shown.result
    c.from_residual-in_err-put_shown.ensures.1 in
    rw p.1 (front_of_loop _ _ _ _ _ c.loop-i.invariant c.in_err-put_shown.ensures.err)
