use Rattle.server_core.proofs.Grabbing.{whole-kept, whole-answer, same-book}
use Rattle.server_core.proofs.server.ServerCore.keep_whole.Goals as goal

pub returns-clause-counts : goal.returns-clause-counts
returns-clause-counts c = whole-answer c.args.self.now c.args.clip c.args.serial c.args.seq c.client_screen-screen.result.0 c.in_ok-kept.kept c.client_screen-screen.ensures.screen c.in_ok-kept.ensures.counts

pub returns-clause-keeps : goal.returns-clause-keeps
returns-clause-keeps c = λ on. whole-kept c.args.self.now c.args.clip c.args.serial c.args.seq c.client_screen-screen.result.0 c.joined_screens-joined.result c.args.bytes.now c.whole.new.self c.in_ok-kept.kept on c.in_ok-kept.ensures.counts c.joined_screens-joined.ensures c.in_ok-kept.ensures.follows c.client_screen-screen.ensures.screen

pub returns-clause-unchanged : goal.returns-clause-unchanged
returns-clause-unchanged c = λ off. same-book c.args.self.now c.whole.new.self (c.in_ok-kept.ensures.unchanged off)
