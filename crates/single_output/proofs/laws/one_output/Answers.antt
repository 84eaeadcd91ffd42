use Rattle.single_output.proofs.OneOutput.{write-alike, queue-alike}
use Rattle.single_output.proofs.laws.one_output.Goals as goal

pub returns : goal.returns
returns c = record { output = write-alike; queues = queue-alike }
