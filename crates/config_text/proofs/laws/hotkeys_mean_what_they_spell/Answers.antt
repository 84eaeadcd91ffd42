use Rattle.config_text.proofs.HotkeyMeanings.{hotkey_means, means_hotkey}
use Rattle.config_text.proofs.laws.hotkeys_mean_what_they_spell.Goals as goal

pub returns : goal.returns
returns c = record { means = hotkey_means; taken = means_hotkey }
