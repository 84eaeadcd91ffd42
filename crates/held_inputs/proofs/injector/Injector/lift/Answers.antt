use Rattle.std.proofs.Common.{refl}
use Rattle.held_inputs.proofs.Standing.{lift-none, lift-held}
use Rattle.held_inputs.proofs.injector.Injector.lift.Goals as goal

pub returns-in_err-id-clause-tells : goal.returns-in_err-id-clause-tells
returns-in_err-id-clause-tells c = rw c.from_residual.ensures (lift-none _ _ c.in_err-id.ensures)

pub returns-clause-tells : goal.returns-clause-tells
returns-clause-tells c =
    lift-held _ _ _ _ c.in_ok-id.ensures c.lift.ensures.keys c.lift.ensures.buttons refl
