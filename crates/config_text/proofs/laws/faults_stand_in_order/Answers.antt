use Rattle.config_text.proofs.FaultOrder.{known_in_order, screen_in_order, alias_in_order}
use Rattle.config_text.proofs.FaultOrder.{link_in_order, setting_in_order}
use Rattle.config_text.proofs.HotkeyFaultOrder.{hotkey_in_order}
use Rattle.config_text.proofs.laws.faults_stand_in_order.Goals as goal

pub returns : goal.returns
returns c = record {
  known_screen = known_in_order;
  new_screen = screen_in_order;
  new_alias = alias_in_order;
  new_link = link_in_order;
  new_setting = setting_in_order;
  new_hotkey = hotkey_in_order;
}
