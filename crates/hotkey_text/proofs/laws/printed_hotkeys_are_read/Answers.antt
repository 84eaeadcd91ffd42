use Rattle.hotkey_text.proofs.LinesAgain as law
use Rattle.hotkey_text.proofs.laws.printed_hotkeys_are_read.Goals as goal

pub returns : goal.returns
returns c = law.line_again
