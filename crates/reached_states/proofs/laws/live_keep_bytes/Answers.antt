use Rattle.reached_states.proofs.Dropped.{live-keep-bytes}
use Rattle.reached_states.proofs.laws.live_keep_bytes.Goals as goal

pub returns : goal.returns
returns c = live-keep-bytes
