use Rattle.hotkey_text.proofs.SpelledTriggers.{trigger_takes, trigger_read}
use Rattle.hotkey_text.proofs.spelling_laws.triggers_are_spelled.Goals as goal

pub returns : goal.returns
returns c = record {
  spelled = trigger_takes;
  read = trigger_read;
}
