use Rattle.server_core.proofs.Grabbing.{whole-unshared, whole-passed, whole-counted}
use Rattle.server_core.proofs.server.ServerCore.whole.Goals as goal

pub returns-then-not-is_sharing : goal.returns-then-not-is_sharing
returns-then-not-is_sharing c = whole-unshared c.args.self.now c.args.clip c.args.serial c.args.seq c.args.bytes.now c.is_sharing.result c.is_sharing.ensures c.if-not-is_sharing.true

pub returns-then-not-kept : goal.returns-then-not-kept
returns-then-not-kept c = whole-passed c.args.self.now c.keep_whole.new.self c.args.clip c.args.serial c.args.seq c.args.bytes.now c.in_ok-kept.kept c.in_ok-kept.ensures.counts c.if-not-kept.true (c.in_ok-kept.ensures.unchanged c.if-not-kept.true)

pub returns : goal.returns
returns c = whole-counted c.args.self.now c.keep_whole.new.self c.refresh.new.self c.args.clip c.args.serial c.args.seq c.args.bytes.now c.is_sharing.result c.in_ok-kept.kept c.is_sharing.ensures c.if-not-is_sharing.false c.in_ok-kept.ensures.counts c.if-not-kept.false (c.in_ok-kept.ensures.keeps c.if-not-kept.false) c.in_ok-refresh.ensures
