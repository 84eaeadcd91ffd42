use Rattle.hub_mem.proofs.QuietActs.{quiet-now}
use Rattle.hub_mem.proofs.memory_hub.MemoryHub.play_now.Goals as goal

pub add_quiet-requires : goal.add_quiet-requires
add_quiet-requires c = quiet-now c.clock-moment.result _ _
