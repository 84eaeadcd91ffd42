use Rattle.std.proofs.Common.{◌≡◌, ap, length, arith}
use Rattle.share_base.proofs.NameBytes.{is_name_short}
use Rattle.server_log.proofs.log.Log.joined.Goals as goal

pub put_joined-requires : goal.put_joined-requires
put_joined-requires c =
    let short = is_name_short c.args.name.now c.as_slice.ensures.named in
    let same : length c.as_slice.result.now ≡ length c.args.name.now = ap length c.as_slice.ensures.value in
    let none : length c.new-line.result ≡ 0 = ap length c.new-line.ensures in
    omega arith
