use Rattle.hotkey_text.proofs.SpelledHotkeys.{hotkey_takes, hotkey_again}
use Rattle.hotkey_text.proofs.spelling_laws.hotkeys_are_spelled.Goals as goal

pub returns : goal.returns
returns c = record {
  spelled = hotkey_takes;
  read = hotkey_again;
}
