use Rattle.screen_config.proofs.SoundHotkeys.{none_counted}
use Rattle.screen_config.proofs.hotkeys.Hotkeys.new.Goals as goal

pub invariant_of-result : goal.invariant_of-result
invariant_of-result c = rw (c.new.ensures, c.new-2.ensures.items) none_counted
