use Rattle.server_core.proofs.HandedOut.{hands-none}
use Rattle.server_core.proofs.server.ServerCore.hand_out.Goals as goal

pub returns-in_default : goal.returns-in_default
returns-in_default c = hands-none c.args.self.now c.args.clip c.screen_of-screen.result.0 c.entered.follows.lender-at-none c.screen_of-screen.ensures.screen c.in_default.ensures.gives c.entered.follows.holds-at-none
