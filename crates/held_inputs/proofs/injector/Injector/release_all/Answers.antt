use Rattle.std.proofs.Common.{refl}
use Rattle.held_inputs.proofs.ReleaseTexts.{released-prints}
use Rattle.held_inputs.proofs.injector.Injector.release_all.Goals as goal

pub returns-clause-prints : goal.returns-clause-prints
returns-clause-prints c =
    released-prints _ _ _ _ (rw c.new-lines.ensures at c.release.ensures.printed)
    c.release.ensures.fits c.release.ensures.few c.release.ensures.keys c.release.ensures.buttons
    refl
