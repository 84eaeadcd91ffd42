use Rattle.share_base.proofs.ScreenBits.{has-none}
use Rattle.share_base.proofs.screen_set.ScreenSet.new.Goals as goal

pub returns : goal.returns
returns c = has-none
