use Rattle.std.proofs.Common.{refl, sym, ◌∙◌}
use Rattle.held_inputs.proofs.Standing.{let_go-held}
use Rattle.held_inputs.proofs.injector.Injector.let_go.Goals as goal

pub returns-clause-tells : goal.returns-clause-tells
returns-clause-tells c =
    let_go-held _ _ _ (sym c.is_button_down.ensures ∙ c.if-not-is_button_down.false)
    c.set_button.ensures.known c.set_button.ensures.keys c.set_button.ensures.buttons refl
