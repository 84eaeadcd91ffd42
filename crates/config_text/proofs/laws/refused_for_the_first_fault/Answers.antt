use Rattle.config_text.proofs.FirstFaults.{first_of_known, first_of_screen, first_of_alias}
use Rattle.config_text.proofs.FirstFaults.{first_of_link, first_of_setting}
use Rattle.config_text.proofs.FirstHotkeyFaults.{first_of_hotkey}
use Rattle.config_text.proofs.laws.refused_for_the_first_fault.Goals as goal

pub returns : goal.returns
returns c = record {
  known_screen = first_of_known;
  new_screen = first_of_screen;
  new_alias = first_of_alias;
  new_link = first_of_link;
  new_setting = first_of_setting;
  new_hotkey = first_of_hotkey;
}
