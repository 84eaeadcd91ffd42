use Rattle.clip_origins.proofs.SentBytes.{arrivals-came-with-pieces}
use Rattle.clip_origins.proofs.laws.arrivals_came_with_pieces.Goals as goal

pub returns : goal.returns
returns c = arrivals-came-with-pieces
