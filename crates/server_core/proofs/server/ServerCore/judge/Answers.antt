use Rattle.std.specs.Prelude.{◌≡◌, true, false}
use Rattle.std.proofs.Common.{sym, ◌∙◌, subst}
use Rattle.hello_states.specs.declared.part_cause.PartCause.TheVariants as cause
use Rattle.machine.specs.Screens.{lives}
use Rattle.machine.specs.Partings.{part}
use Rattle.server_core.specs.Standing.{Stands}
use Rattle.server_core.proofs.Judged.{judged-none, judged-gone, judged-part}
use Rattle.server_core.proofs.server.ServerCore.judge.Goals as goal

pub returns-in_default : goal.returns-in_default
returns-in_default c = λ box is b s h. subst (λ t. Stands b c.args.self.now t) (sym (judged-none c.args.serial box s (is ∙ c.in_default.is))) h

pub returns-then-not-lives : goal.returns-then-not-lives
returns-then-not-lives c = λ box is b s h.
    let off : lives s c.args.serial ≡ false = sym (c.lives.ensures b s h) ∙ c.if-not-lives.true in
    subst (λ t. Stands b c.args.self.now t) (sym (judged-gone c.args.serial box s off)) h

pub returns : goal.returns
returns c = λ box is b s h.
    let on : lives s c.args.serial ≡ true = sym (c.lives.ensures b s h) ∙ c.if-not-lives.false in
    subst (λ t. Stands b c.part_slow.new.self t) (sym (judged-part c.args.serial box s c.in-Some.frame (is ∙ c.in-Some.is) on))
    (c.in_ok-part_slow.ensures b (part (cause.Bad c.in-Some.frame.place c.in-Some.frame.reason) c.args.serial s) (c.in_ok-part.ensures b s on h))
