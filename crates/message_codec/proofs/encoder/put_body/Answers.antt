use Rattle.std.proofs.Common.{◌++◌, arith}
use Rattle.std.proofs.lemmas.List.{length-append}
use Rattle.std.proofs.lemmas.Result.{err_from_is_err_and}
use Rattle.message_codec.specs.Fields.{spelled, spelled_all, Fits}
use Rattle.message_codec.specs.FieldViews.{seen}
use Rattle.message_codec.specs.Table.{text, code_of, fields}
use Rattle.message_codec.proofs.Putting.{put_more, all_more, one_within, front_of_loop}
use Rattle.message_codec.proofs.encoder.put_body.Goals as goal

pub put_field-requires : goal.put_field-requires
put_field-requires c =
    let all = fields c.args.msg.now in
    omega (
      arith,
      one_within spelled all c.loop-i.i (seen c.field.result) c.field.ensures,
      length-append (text (code_of c.args.msg.now)) (spelled_all all),
    )

pub loop-i-preserved : goal.loop-i-preserved
loop-i-preserved c =
    let all = fields c.args.msg.now in
    let one = seen c.field.result in
    record {
      put =
          put_more spelled (c.args.out.now ++ text (code_of c.args.msg.now)) c.loop-i.out
          c.put_field.new.out all c.loop-i.i one c.loop-i.invariant.put c.field.ensures
          c.in_ok-put_field.ensures.ok;
      fits =
          all_more Fits all c.loop-i.i one c.field.ensures c.loop-i.invariant.fits
          c.in_ok-put_field.ensures.fits;
    }

pub returns-in_err-put_field-clause-err : goal.returns-in_err-put_field-clause-err
returns-in_err-put_field-clause-err c =
    let p =
    err_from_is_err_and c.from_residual-in_err-put_field.result
    c.from_residual-in_err-put_field.ensures.1 in
    rw p.1 (front_of_loop _ _ _ _ _ c.loop-i.invariant.put c.in_err-put_field.ensures.err)
