use Rattle.screen_config.proofs.SoundStarts.{sound_empty}
use Rattle.screen_config.proofs.config.Config.new.Goals as goal

pub invariant_of-result : goal.invariant_of-result
invariant_of-result c =
    sound_empty c.new.result c.new-2.result c.new-3.result c.new-4.result c.new-5.result
    c.new.ensures c.new-2.ensures c.new-3.ensures c.new-4.ensures c.new-5.ensures
