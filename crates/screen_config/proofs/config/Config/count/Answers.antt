use Rattle.std.proofs.Common.{subst}
use Rattle.screen_config.specs.Configurations.{Configuration}
use Rattle.screen_config.specs.Sound.{IsSound}
use Rattle.screen_config.proofs.config.Config.count.Goals as goal

pub returns-clause-sound : goal.returns-clause-sound
returns-clause-sound c = subst (λ (k : Configuration). IsSound k) c.self.view_is c.self.invariant
