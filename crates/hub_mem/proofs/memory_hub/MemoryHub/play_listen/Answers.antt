use Rattle.hub_mem.proofs.QuietActs.{quiet-listen}
use Rattle.hub_mem.proofs.memory_hub.MemoryHub.play_listen.Goals as goal

pub add_quiet-requires : goal.add_quiet-requires
add_quiet-requires c = quiet-listen c.args.port _ _ c.next_listen-answer.result
