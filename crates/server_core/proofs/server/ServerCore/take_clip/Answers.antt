use Rattle.server_core.proofs.Grabbing.{clip-taken, grab-answer, same-book}
use Rattle.server_core.proofs.server.ServerCore.take_clip.Goals as goal

pub returns-clause-counts : goal.returns-clause-counts
returns-clause-counts c = grab-answer c.args.self.now c.args.clip c.args.seq c.grabbed.result c.grabbed.ensures.counts

pub returns-clause-taken : goal.returns-clause-taken
returns-clause-taken c = λ on. clip-taken c.args.self.now c.args.clip c.args.serial c.args.seq c.client_screen-screen.result.0 c.grabbed.new.self c.grabbed.result on c.grabbed.ensures.counts c.grabbed.ensures.follows c.client_screen-screen.ensures.screen

pub returns-clause-unchanged : goal.returns-clause-unchanged
returns-clause-unchanged c = λ off. same-book c.args.self.now c.grabbed.new.self (c.grabbed.ensures.unchanged off)
