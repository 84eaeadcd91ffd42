use Rattle.std.proofs.Common.{ap, ◌∙◌}
use Rattle.machine.specs.Screens.{screen_of, shape_of}
use Rattle.pressed_inputs.specs.Inputs.{inputs_of}
use Rattle.screen_crossing.specs.Points.{point_of}
use Rattle.server_core.proofs.server.ServerCore.surroundings.Goals as goal

pub returns-clause-around : goal.returns-clause-around
returns-clause-around c = λ b s h. record {
  config_is = h.config;
  screen = c.screen_of.ensures.screen b s h ∙ ap (screen_of s) h.active;
  shape = c.shape_of.ensures.shape b s h ∙ ap (shape_of s) h.active;
  cursor = ap point_of c.point.ensures.point ∙ h.cursor;
  joined = λ n. c.joined_screens.ensures n b s h;
  is_locked = h.is_locked;
  sequence = h.sequence;
  has_mouse_down = c.has_mouse_down.ensures (inputs_of s) h.pressed;
  mods_are = c.mods.ensures (inputs_of s) h.pressed;
}
