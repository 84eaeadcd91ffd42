use Rattle.option_table.proofs.PrintedAgain.{key_again, row_value_again}
use Rattle.option_table.proofs.laws.printed_option_is_read.Goals as goal

pub returns-clause-key : goal.returns-clause-key
returns-clause-key c = key_again

pub returns-clause-value : goal.returns-clause-value
returns-clause-value c = row_value_again
