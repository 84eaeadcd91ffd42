use Rattle.pressed_inputs.proofs.Steps.{ids_release, rule_released}
use Rattle.pressed_inputs.proofs.pressed.Pressed.key_up.Goals as goal

pub returns : goal.returns
returns c = λ i k. record {
  ids = ids_release c.args.self.now.ids c.args.button.0 i.presses c.requires k.ids;
  mods = c.release.ensures i.presses k.mods;
  taken_keys = rule_released c.args.self.now.taken_keys c.args.button.0 i.taken_keys c.requires k.taken_keys;
  buttons = k.buttons;
  each_button = k.each_button;
  taken_buttons = k.taken_buttons;
}
