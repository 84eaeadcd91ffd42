use Rattle.hub_mem.proofs.QuietActs.{quiet-close}
use Rattle.hub_mem.proofs.memory_hub.MemoryHub.play_close.Goals as goal

pub add_quiet-requires : goal.add_quiet-requires
add_quiet-requires c = quiet-close c.args.serial _ _
