use Rattle.std.specs.Prelude.{Bool}
use Rattle.std.proofs.Common.{sym, ◌∙◌, subst}
use Rattle.machine.specs.Combining.{choose}
use Rattle.machine.specs.Events.{move, move_by}
use Rattle.server_core.specs.Standing.{Stands}
use Rattle.server_core.proofs.Coordinates.{as_passed}
use Rattle.server_core.proofs.server.ServerCore.motion.Goals as goal

pub returns-then-moves_by : goal.returns-then-moves_by
returns-then-moves_by c = λ number b s h. subst (λ (x : Bool). Stands b c.move_by.new.self (choose x (move_by number c.args.dx c.args.dy) (move number c.args.dx c.args.dy) s)) (sym c.if-moves_by.true ∙ c.moves_by.ensures b s h) (as_passed (λ x y. Stands b c.move_by.new.self (move_by number x y s)) c.args.dx c.args.dy c.ranges.dx c.ranges.dy (c.in_ok-move_by.ensures number b s h))

pub returns : goal.returns
returns c = λ number b s h. subst (λ (x : Bool). Stands b c.move_cursor.new.self (choose x (move_by number c.args.dx c.args.dy) (move number c.args.dx c.args.dy) s)) (sym c.if-moves_by.false ∙ c.moves_by.ensures b s h) (as_passed (λ x y. Stands b c.move_cursor.new.self (move number x y s)) c.args.dx c.args.dy c.ranges.dx c.ranges.dy (c.in_ok-move_cursor.ensures number b s h))
