use Rattle.clip_chunks.proofs.EndedRuns.{ends_whole, whole_found}
use Rattle.clip_chunks.proofs.laws.whole_where_found.Goals as goal

pub returns-clause-found : goal.returns-clause-found
returns-clause-found c = ends_whole

pub returns-clause-all : goal.returns-clause-all
returns-clause-all c = whole_found
