use Rattle.hotkey_text.proofs.HotkeyWords.{hotkey_begins, hotkey_taken}
use Rattle.hotkey_text.proofs.spelling_laws.hotkeys_begin_with_their_word.Goals as goal

pub returns : goal.returns
returns c = record { begins = hotkey_begins; taken = hotkey_taken }
