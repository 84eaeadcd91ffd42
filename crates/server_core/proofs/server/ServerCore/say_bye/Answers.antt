use Rattle.std.specs.Prelude.{Bool}
use Rattle.std.proofs.Common.{sym, ◌∙◌, subst}
use Rattle.hello_states.specs.declared.part_cause.PartCause.TheVariants as cause
use Rattle.machine.specs.Combining.{when}
use Rattle.machine.specs.Partings.{part}
use Rattle.server_core.specs.Standing.{Stands}
use Rattle.server_core.proofs.server.ServerCore.say_bye.Goals as goal

pub returns : goal.returns
returns c = λ b s h.
    let on = sym (c.lives.ensures b s h) ∙ c.if-not-lives.false in
    subst (λ (t : Bool). Stands b c.part.new.self (when t (part cause.Bye c.args.serial) s)) (sym on) (c.in_ok-part.ensures b s on h)

pub returns-then-not-lives : goal.returns-then-not-lives
returns-then-not-lives c = λ b s h. subst (λ (t : Bool). Stands b c.args.self.now (when t (part cause.Bye c.args.serial) s)) (sym c.if-not-lives.true ∙ c.lives.ensures b s h) h
