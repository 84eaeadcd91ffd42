use Rattle.hotkey_text.proofs.StopsHotkeys.{hotkey_stops}
use Rattle.hotkey_text.proofs.spelling_laws.hotkeys_stop_where_they_cannot_go_on.Goals as goal

pub returns : goal.returns
returns c = hotkey_stops
