use Rattle.message_reader.proofs.Stepping.{one_reading}
use Rattle.message_reader.proofs.laws.one_reading.Goals as goal

pub returns : goal.returns
returns c = one_reading
