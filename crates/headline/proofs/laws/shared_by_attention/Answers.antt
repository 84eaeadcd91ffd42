use Rattle.headline.proofs.Sharing.{shared-by-attention}
use Rattle.headline.proofs.laws.shared_by_attention.Goals as goal

pub returns : goal.returns
returns c = shared-by-attention
