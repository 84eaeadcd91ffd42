-- The headline, of a run of the loop.
use Rattle.std.specs.Prelude.{◌≡◌, List}
use Rattle.hub_acts.specs.declared.act.Act.{Act}
use Rattle.reached_states.specs.Reaching.{Origin}
use Rattle.headline.specs.Taking.{EndsByQuit}
use Rattle.headline.specs.Sharing.{AreAttended, Shared}
use Rattle.engine_loop.specs.declared.serve_end.ServeEnd.{ServeEnd}
use Rattle.engine_loop.specs.declared.serve_end.ServeEnd.TheVariants as ends

-- the acts of its turns and of its closings were due, and over them the headline holds; where it
-- ended as Quit, the script has quit, no connection was left, and no wait ended it
pub record KeepsHeadline (o : Origin) (end : ServeEnd) (run leaves : List Act) : Type 0 where
  pub due : AreAttended o run leaves
  pub shared : Shared o run leaves
  pub quit : end ≡ ends.Quit → EndsByQuit o run
