use Rattle.std.specs.Prelude.{ℕ, List, Option, Some}
use Rattle.std.proofs.Common.{sym, subst}
use Rattle.clip_chunks.specs.Rules as rules
use Rattle.machine.specs.Targets.{Target}
use Rattle.machine.specs.States.{State}
use Rattle.machine.specs.Combining.{for_some, unchanged}
use Rattle.machine.specs.Screens.{screen_of}
use Rattle.machine.specs.Clipboards.{clip, set_clip, give}
use Rattle.server_core.specs.Targets.{meant, IsThere}
use Rattle.server_core.specs.HandingOut.{cleaned, HandsOut}
use Rattle.server_core.specs.Standing.{Stands}
use Rattle.server_core.proofs.server.ServerCore.refresh.Goals as goal

pub returns : goal.returns
returns c = λ b s h.
    let after : State = cleaned c.args.clip (Some c.in-Some.bytes) s in
    let handed : HandsOut c.args.clip c.args.self.now c.hand_out.new.self (Some c.in-Some.bytes) = subst (λ (o : Option (List ℕ)). HandsOut c.args.clip c.args.self.now c.hand_out.new.self o) c.in-Some.is c.in_ok-bytes.ensures in
    let k = handed.leads b s h in
    let given = subst (λ (xs : List ℕ). Stands b c.give.new.self (give c.args.clip xs (meant c.hand_out.new.self.active) after)) c.as_slice.ensures (c.in_ok-give.ensures b after (subst (IsThere after) (sym k.active) k.there) k) in
    subst (λ (o : Option (List ℕ)). Stands b c.give.new.self (for_some o (λ bytes t. give c.args.clip bytes t.active (set_clip c.args.clip (rules.entered (screen_of t t.active) (clip t c.args.clip)) t)) unchanged s)) (handed.given b s h)
    (subst (λ (t : Target). Stands b c.give.new.self (give c.args.clip c.in-Some.bytes t after)) k.active given)
