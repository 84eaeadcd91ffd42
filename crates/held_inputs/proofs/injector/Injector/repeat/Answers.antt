use Rattle.held_inputs.proofs.Standing.{repeat-none, repeat-held}
use Rattle.held_inputs.proofs.injector.Injector.repeat.Goals as goal

pub returns-in_err-id-clause-tells : goal.returns-in_err-id-clause-tells
returns-in_err-id-clause-tells c =
    rw c.from_residual.ensures (repeat-none _ _ _ _ c.in_err-id.ensures)

pub returns-clause-tells : goal.returns-clause-tells
returns-clause-tells c = repeat-held _ _ _ _ _ _ c.in_ok-id.ensures c.meant_mask-mask.ensures
