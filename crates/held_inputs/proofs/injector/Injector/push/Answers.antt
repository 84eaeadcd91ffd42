use Rattle.std.proofs.Common.{refl, sym, ◌∙◌}
use Rattle.held_inputs.proofs.Standing.{push-new}
use Rattle.held_inputs.proofs.injector.Injector.push.Goals as goal

pub returns-clause-tells : goal.returns-clause-tells
returns-clause-tells c =
    push-new _ _ _ (sym c.is_button_down.ensures ∙ c.if-is_button_down.false)
    c.set_button.ensures.known c.set_button.ensures.keys c.set_button.ensures.buttons refl
