use Rattle.hotkey_text.proofs.SpelledActions.{action_takes, action_read}
use Rattle.hotkey_text.proofs.spelling_laws.actions_are_spelled.Goals as goal

pub returns : goal.returns
returns c = record {
  spelled = action_takes;
  read = action_read;
}
