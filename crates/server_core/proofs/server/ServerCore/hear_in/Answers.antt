use Rattle.std.specs.Prelude.{◌≡◌, Option, Some}
use Rattle.std.specs.Option.{option_map}
use Rattle.std.proofs.Common.{sym, ap, ◌∙◌, subst}
use Rattle.hello_states.specs.Phases.{Phase, Greeting, Asked, Joined, Parting}
use Rattle.machine.specs.Connections.{Connection}
use Rattle.machine.specs.Screens.{phase_of}
use Rattle.machine.specs.Hearing.{hear_in}
use Rattle.connection_table.specs.PhaseOf as kept
use Rattle.server_core.specs.Standing.{Stands}
use Rattle.server_core.proofs.Found.{none-read}
use Rattle.server_core.proofs.Known.{phase-kept}
use Rattle.server_core.proofs.server.ServerCore.hear_in.Goals as goal

pub returns-in_default : goal.returns-in_default
returns-in_default c = λ b s h. subst (λ (o : Option Phase). Stands b c.args.self.now (hear_in o c.args.message.now c.args.serial s)) (sym (ap (λ o. option_map (λ (d : Connection). d.phase) o) (none-read b c.args.self.now s c.args.serial c.in_default.ensures h))) h

pub returns-in_ok-hear_greeting-in-Greeting : goal.returns-in_ok-hear_greeting-in-Greeting
returns-in_ok-hear_greeting-in-Greeting c = λ b s h.
    let p : phase_of s c.args.serial ≡ Some (Greeting c.in-Greeting.field-0.accepted) = phase-kept b c.args.self.now s c.args.serial c.in-Some.connection.now (Greeting c.in-Greeting.field-0.accepted) c.in-Some.ensures (sym (ap kept.phase_of c.phase.ensures) ∙ ap kept.phase_of c.in-Greeting.is) h in
    subst (λ (o : Option Phase). Stands b c.hear_greeting.new.self (hear_in o c.args.message.now c.args.serial s)) (sym p) (c.in_ok-hear_greeting-in-Greeting.ensures c.in-Greeting.field-0.accepted b s p h)

pub returns-in_ok-hear_asked-in-Asked : goal.returns-in_ok-hear_asked-in-Asked
returns-in_ok-hear_asked-in-Asked c = λ b s h.
    let p : phase_of s c.args.serial ≡ Some (Asked c.in-Asked.asked.asked) = phase-kept b c.args.self.now s c.args.serial c.in-Some.connection.now (Asked c.in-Asked.asked.asked) c.in-Some.ensures (sym (ap kept.phase_of c.phase.ensures) ∙ ap kept.phase_of c.in-Asked.is) h in
    subst (λ (o : Option Phase). Stands b c.hear_asked.new.self (hear_in o c.args.message.now c.args.serial s)) (sym p) (c.in_ok-hear_asked-in-Asked.ensures c.in-Asked.asked.asked c.screen-screen.ensures.value b s p h)

pub returns-in_ok-hear_joined-in-Joined : goal.returns-in_ok-hear_joined-in-Joined
returns-in_ok-hear_joined-in-Joined c = λ b s h.
    let p : phase_of s c.args.serial ≡ Some (Joined c.in-Joined.field-0.joined) = phase-kept b c.args.self.now s c.args.serial c.in-Some.connection.now (Joined c.in-Joined.field-0.joined) c.in-Some.ensures (sym (ap kept.phase_of c.phase.ensures) ∙ ap kept.phase_of c.in-Joined.is) h in
    subst (λ (o : Option Phase). Stands b c.hear_joined.new.self (hear_in o c.args.message.now c.args.serial s)) (sym p) (c.in_ok-hear_joined-in-Joined.ensures c.in-Joined.field-0.joined b s p h)

pub returns-in-Parting : goal.returns-in-Parting
returns-in-Parting c = λ b s h.
    let p : phase_of s c.args.serial ≡ Some (Parting c.in-Parting.field-0.cause c.in-Parting.field-0.moment) = phase-kept b c.args.self.now s c.args.serial c.in-Some.connection.now (Parting c.in-Parting.field-0.cause c.in-Parting.field-0.moment) c.in-Some.ensures (sym (ap kept.phase_of c.phase.ensures) ∙ ap kept.phase_of c.in-Parting.is) h in
    subst (λ (o : Option Phase). Stands b c.args.self.now (hear_in o c.args.message.now c.args.serial s)) (sym p) h
