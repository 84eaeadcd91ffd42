use Rattle.std.proofs.Common.{rules, w16}
use Rattle.std.proofs.lemmas.Int.{to_z-of_z}
use Rattle.held_inputs.proofs.Standing.{entered}
use Rattle.held_inputs.proofs.injector.Injector.enter.Goals as goal

pub returns-clause-tells : goal.returns-clause-tells
returns-clause-tells c =
    rw (to_z-of_z w16 c.args.x (search rules), to_z-of_z w16 c.args.y (search rules))
    (entered _ _ _ _ _ _ c.meant_mask-mask.ensures)
