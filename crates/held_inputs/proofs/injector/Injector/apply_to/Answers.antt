use Rattle.std.proofs.Common.{rules, w16}
use Rattle.std.specs.Prelude.{Some}
use Rattle.std.proofs.lemmas.Int.{to_z-of_z}
use Rattle.held_inputs.specs.declared.line.Line.TheVariants.{MoveTo, MoveBy, Wheel}
use Rattle.held_inputs.proofs.Standing.{moved_to, moved_by, turned, saved}
use Rattle.held_inputs.specs.Screen.{saver_line}
use Rattle.held_inputs.proofs.LineRanges.{fit-saver}
use Rattle.held_inputs.proofs.ReleaseTexts.{tells-prints}
use Rattle.held_inputs.proofs.injector.Injector.apply_to.Goals as goal

pub returns-in-Enter-clause-prints : goal.returns-in-Enter-clause-prints
returns-in-Enter-clause-prints g c =
    rw c.in-Enter.is
    (rw (to_z-of_z w16 c.in-Enter.x (search rules), to_z-of_z w16 c.in-Enter.y (search rules)) at
    (tells-prints _ _ _ _ _ _ c.enter.ensures.tells c.enter.ensures.fits
    c.put_one.ensures.printed))

pub returns-in-KeyDown-clause-prints : goal.returns-in-KeyDown-clause-prints
returns-in-KeyDown-clause-prints g c =
    rw c.in-KeyDown.is
    (tells-prints _ _ _ _ _ _ c.press.ensures.tells c.press.ensures.fits
    c.put_one-in-KeyDown.ensures.printed)

pub returns-in-KeyRepeat-clause-prints : goal.returns-in-KeyRepeat-clause-prints
returns-in-KeyRepeat-clause-prints g c =
    rw c.in-KeyRepeat.is
    (tells-prints _ _ _ _ _ _ (c.repeat.ensures.tells c.in-KeyRepeat.id) c.repeat.ensures.fits
    c.put_one-in-KeyRepeat.ensures.printed)

pub returns-in-KeyUp-clause-prints : goal.returns-in-KeyUp-clause-prints
returns-in-KeyUp-clause-prints g c =
    rw c.in-KeyUp.is
    (tells-prints _ _ _ _ _ _ (c.lift.ensures.tells c.in-KeyUp.id c.in-KeyUp.mask)
    c.lift.ensures.fits c.put_one-in-KeyUp.ensures.printed)

pub returns-in-ButtonDown-clause-prints : goal.returns-in-ButtonDown-clause-prints
returns-in-ButtonDown-clause-prints g c =
    rw c.in-ButtonDown.is
    (tells-prints _ _ _ _ _ _ c.push.ensures.tells c.push.ensures.fits
    c.put_one-in-ButtonDown.ensures.printed)

pub returns-in-ButtonUp-clause-prints : goal.returns-in-ButtonUp-clause-prints
returns-in-ButtonUp-clause-prints g c =
    rw c.in-ButtonUp.is
    (tells-prints _ _ _ _ _ _ c.let_go.ensures.tells c.let_go.ensures.fits
    c.put_one-in-ButtonUp.ensures.printed)

pub returns-in-MoveTo-clause-prints : goal.returns-in-MoveTo-clause-prints
returns-in-MoveTo-clause-prints g c =
    rw c.in-MoveTo.is
    (tells-prints _ _ _ (Some (MoveTo c.in-MoveTo.x c.in-MoveTo.y)) _ _
    (moved_to c.args.self.now c.in-MoveTo.x c.in-MoveTo.y) (search rules, search rules)
    (rw (to_z-of_z w16 c.in-MoveTo.x (search rules), to_z-of_z w16 c.in-MoveTo.y (search rules)) at
    c.put_one-in-MoveTo.ensures.printed))

pub returns-in-MoveBy-clause-prints : goal.returns-in-MoveBy-clause-prints
returns-in-MoveBy-clause-prints g c =
    rw c.in-MoveBy.is
    (tells-prints _ _ _ (Some (MoveBy c.in-MoveBy.dx c.in-MoveBy.dy)) _ _
    (moved_by c.args.self.now c.in-MoveBy.dx c.in-MoveBy.dy) (search rules, search rules)
    (rw (to_z-of_z w16 c.in-MoveBy.dx (search rules), to_z-of_z w16 c.in-MoveBy.dy (search rules))
    at c.put_one-in-MoveBy.ensures.printed))

pub returns-in-Wheel-clause-prints : goal.returns-in-Wheel-clause-prints
returns-in-Wheel-clause-prints g c =
    rw c.in-Wheel.is
    (tells-prints _ _ _ (Some (Wheel c.in-Wheel.dx c.in-Wheel.dy)) _ _
    (turned c.args.self.now c.in-Wheel.dx c.in-Wheel.dy) (search rules, search rules)
    (rw (to_z-of_z w16 c.in-Wheel.dx (search rules), to_z-of_z w16 c.in-Wheel.dy (search rules)) at
    c.put_one-in-Wheel.ensures.printed))

pub returns-in-Saver-clause-prints : goal.returns-in-Saver-clause-prints
returns-in-Saver-clause-prints g c =
    rw c.in-Saver.is
    (tells-prints _ _ _ (Some (saver_line c.in-Saver.on)) _ _
    (saved c.args.self.now c.in-Saver.on) (fit-saver c.in-Saver.on)
    (rw c.saver.ensures at c.put_one-in-Saver.ensures.printed))
