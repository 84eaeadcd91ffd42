use Rattle.std.proofs.Common.{refl}
use Rattle.held_inputs.proofs.ReleaseTexts.{released-prints, leave-prints}
use Rattle.held_inputs.proofs.injector.Injector.leave.Goals as goal

pub returns-clause-prints : goal.returns-clause-prints
returns-clause-prints g c =
    leave-prints _ _ _ _ _
    (released-prints _ _ _ _ c.release.ensures.printed c.release.ensures.fits
    c.release.ensures.few c.release.ensures.keys c.release.ensures.buttons refl)
    c.put_line.ensures.printed
