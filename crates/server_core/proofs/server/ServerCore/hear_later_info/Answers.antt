use Rattle.std.specs.Prelude.{refl, Option}
use Rattle.std.proofs.Common.{sym, ◌∙◌, subst}
use Rattle.share_base.specs.declared.shape.Shape.{Shape}
use Rattle.hello_states.specs.Phases.{Joined, after_hearing_in}
use Rattle.machine.specs.Information.{hear_later_info}
use Rattle.server_core.specs.Standing.{Stands}
use Rattle.server_core.proofs.Known.{phase-lives}
use Rattle.server_core.proofs.server.ServerCore.hear_later_info.Goals as goal

pub returns : goal.returns
returns c = λ joined b s p h. subst (λ (o : Option Shape). Stands b c.reshape.new.self (hear_later_info joined o c.args.serial s)) c.in-Some.ensures.told (c.in_ok-reshape.ensures joined b s p h)

pub returns-in_default : goal.returns-in_default
returns-in_default c = λ joined b s p h. subst (λ (o : Option Shape). Stands b c.part.new.self (hear_later_info joined o c.args.serial s)) (sym c.in_default.is ∙ c.shape.ensures.told) (c.in_ok-part.ensures b s (phase-lives s c.args.serial (after_hearing_in (Joined joined) s.at) p refl) h)
