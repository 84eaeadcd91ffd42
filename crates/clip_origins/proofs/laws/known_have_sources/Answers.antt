use Rattle.clip_origins.proofs.Sources.{known-have-sources}
use Rattle.clip_origins.proofs.laws.known_have_sources.Goals as goal

pub returns : goal.returns
returns c = known-have-sources
