use Rattle.std.specs.Prelude.{ℕ, Option}
use Rattle.std.proofs.Common.{subst}
use Rattle.machine.specs.States.{State}
use Rattle.machine.specs.Combining.{for_some, unchanged}
use Rattle.machine.specs.Partings.{say_farewell, marked, lose}
use Rattle.server_core.specs.Standing.{Stands}
use Rattle.server_core.proofs.Farewells.{farewell-lives}
use Rattle.server_core.proofs.server.ServerCore.part.Goals as goal

pub returns : goal.returns
returns c = λ b s lives h.
    let told : State = say_farewell c.args.cause c.args.serial s in
    let after : State = marked c.args.cause c.args.serial told in
    subst (λ (o : Option ℕ). Stands b c.lose.new.self (for_some o (lose c.args.serial) unchanged after)) (c.in-Some.ensures.screen b s h)
    (c.in_ok-lose.ensures b after (c.in_ok-mark.ensures b told (farewell-lives c.args.cause c.args.serial s lives) (c.in_ok-say_farewell.ensures b s lives h)))

pub returns-in_default : goal.returns-in_default
returns-in_default c = λ b s lives h.
    let told : State = say_farewell c.args.cause c.args.serial s in
    let after : State = marked c.args.cause c.args.serial told in
    subst (λ (o : Option ℕ). Stands b c.mark.new.self (for_some o (lose c.args.serial) unchanged after)) (c.in_default.ensures.screen b s h)
    (c.in_ok-mark.ensures b told (farewell-lives c.args.cause c.args.serial s lives) (c.in_ok-say_farewell.ensures b s lives h))
