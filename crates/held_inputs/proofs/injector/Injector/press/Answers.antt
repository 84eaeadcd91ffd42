use Rattle.std.proofs.Common.{refl, sym, ◌∙◌, rules}
use Rattle.held_inputs.proofs.Standing.{press-held, press-full, press-none, press-new}
use Rattle.held_inputs.proofs.injector.Injector.press.Goals as goal

pub returns-in-Some-clause-tells : goal.returns-in-Some-clause-tells
returns-in-Some-clause-tells c = press-held _ _ _ _ _ _ c.in-Some.ensures c.meant_mask-mask.ensures

pub returns-then-is_full-clause-tells : goal.returns-then-is_full-clause-tells
returns-then-is_full-clause-tells c =
    press-full _ _ _ _ (sym c.in_default.is ∙ c.id.ensures) (c.is_full.ensures.0 c.if-is_full.true)

pub returns-in_err-id-clause-tells : goal.returns-in_err-id-clause-tells
returns-in_err-id-clause-tells c =
    rw c.from_residual.ensures
    (press-none _ _ _ _ (sym c.in_default.is ∙ c.id.ensures) c.in_err-id.ensures)

pub returns-clause-tells : goal.returns-clause-tells
returns-clause-tells c =
    press-new _ _ _ _ _ _ _ (sym c.in_default.is ∙ c.id.ensures) (search rules) c.in_ok-id.ensures
    c.meant_mask-mask.ensures c.press.ensures.keys c.press.ensures.buttons refl
