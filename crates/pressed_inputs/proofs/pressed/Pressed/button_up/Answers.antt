use Rattle.std.proofs.Common.{not, ◌<◌, rules}
use Rattle.std.specs.Prelude.{◌==◌}
use Rattle.std.proofs.lemmas.List.Elements.{All-filter}
use Rattle.pressed_inputs.proofs.Steps.{rule_released, mouse_up}
use Rattle.pressed_inputs.proofs.pressed.Pressed.button_up.Goals as goal

pub returns : goal.returns
returns c = λ i k. record {
  ids = k.ids;
  mods = k.mods;
  taken_keys = k.taken_keys;
  buttons = mouse_up c.args.self.now.buttons c.args.button.0 i.buttons (search rules) k.buttons;
  each_button = All-filter (λ n. not (n == c.args.button.0)) (λ b. b < 256) i.buttons k.each_button;
  taken_buttons = rule_released c.args.self.now.taken_buttons c.args.button.0 i.taken_buttons (search rules) k.taken_buttons;
}
