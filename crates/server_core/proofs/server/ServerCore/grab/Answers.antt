use Rattle.server_core.proofs.Grabbing.{grab-unshared, grab-passed, grab-counted}
use Rattle.server_core.proofs.server.ServerCore.grab.Goals as goal

pub returns-then-not-is_sharing : goal.returns-then-not-is_sharing
returns-then-not-is_sharing c = grab-unshared c.args.self.now c.args.clip c.args.serial c.args.seq c.is_sharing.result c.is_sharing.ensures c.if-not-is_sharing.true

pub returns-then-not-take_clip : goal.returns-then-not-take_clip
returns-then-not-take_clip c = grab-passed c.args.self.now c.take_clip.new.self c.args.clip c.args.serial c.args.seq c.take_clip.result c.take_clip.ensures.counts c.if-not-take_clip.true (c.take_clip.ensures.unchanged c.if-not-take_clip.true)

pub returns : goal.returns
returns c = grab-counted c.args.self.now c.take_clip.new.self c.tell_others.new.self c.args.clip c.args.serial c.args.seq c.is_sharing.result c.take_clip.result c.is_sharing.ensures c.if-not-is_sharing.false c.take_clip.ensures.counts c.if-not-take_clip.false (c.take_clip.ensures.taken c.if-not-take_clip.false) c.in_ok-tell_others.ensures
