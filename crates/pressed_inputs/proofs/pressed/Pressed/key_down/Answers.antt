use Rattle.std.proofs.Common.{rules}
use Rattle.pressed_inputs.proofs.Steps.{ids_press, rule_taken, no_rule_taken}
use Rattle.pressed_inputs.proofs.pressed.Pressed.key_down.Goals as goal

pub returns-then-is_some : goal.returns-then-is_some
returns-then-is_some c = λ i k. record {
  ids = ids_press c.args.self.now.ids c.args.id.0 c.args.button.0 i.presses c.requires k.ids;
  mods = c.press.ensures i.presses k.mods;
  taken_keys = rule_taken c.args.rule c.args.self.now.taken_keys c.args.button.0 i.taken_keys (search rules) c.requires k.taken_keys;
  buttons = k.buttons;
  each_button = k.each_button;
  taken_buttons = k.taken_buttons;
}

pub returns-else-is_some : goal.returns-else-is_some
returns-else-is_some c = λ i k. record {
  ids = ids_press c.args.self.now.ids c.args.id.0 c.args.button.0 i.presses c.requires k.ids;
  mods = c.press.ensures i.presses k.mods;
  taken_keys = no_rule_taken c.args.rule c.args.self.now.taken_keys c.args.button.0 i.taken_keys (search rules) k.taken_keys;
  buttons = k.buttons;
  each_button = k.each_button;
  taken_buttons = k.taken_buttons;
}
