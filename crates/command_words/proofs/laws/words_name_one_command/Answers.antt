use Rattle.std.specs.Prelude.{map, string_bytes}
use Rattle.command_words.proofs.OneForm.{one_form}
use Rattle.command_words.proofs.laws.words_name_one_command.Goals as goal

pub returns : goal.returns
returns c form other words h k = one_form form other (map string_bytes words) h k
