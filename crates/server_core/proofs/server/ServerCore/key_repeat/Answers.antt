use Rattle.std.specs.Prelude.{◌≡◌, refl, false, is_some, Option, Some, None}
use Rattle.std.proofs.Common.{sym, ◌∙◌, subst}
use Rattle.share_base.specs.declared.numbers.RuleNo.{RuleNo}
use Rattle.message_codec.specs.declared.messages.Msg.TheVariants as msg
use Rattle.pressed_inputs.specs.Inputs.{inputs_of}
use Rattle.machine.specs.Targets.{OfLine}
use Rattle.machine.specs.Modifiers.{mask, id_at}
use Rattle.machine.specs.Routing.{route}
use Rattle.machine.specs.Routes.{One, unless_taken}
use Rattle.machine.specs.Events.{go}
use Rattle.server_core.specs.Standing.{Stands}
use Rattle.server_core.proofs.server.ServerCore.key_repeat.Goals as goal

none_of : {A : Type 0} (o : Option A) → is_some o ≡ false → o ≡ None
none_of None e = refl
none_of (Some x) e = absurd (let y : ⊥ = cc in y)

pub returns : goal.returns
returns c = λ number b s h.
    let button = c.args.button.0 in
    let none : c.taking_key.result ≡ None = none_of c.taking_key.result (sym c.is_some.ensures ∙ c.if-is_some.false) in
    subst (λ (r : Option RuleNo). Stands b c.tell_active.new.self (go number (unless_taken r (One s.active (msg.KeyRepeat (id_at s button) (mask s) c.args.count button))) s)) (sym none ∙ c.taking_key.ensures b s h)
    (subst (λ n. Stands b c.tell_active.new.self (route (OfLine number) s.active (msg.KeyRepeat (id_at s button) n c.args.count button) s)) (c.mask.ensures (inputs_of s) h.pressed)
    (subst (λ n. Stands b c.tell_active.new.self (route (OfLine number) s.active (msg.KeyRepeat n c.mask.result.0 c.args.count button) s)) (c.id_at.ensures (inputs_of s) h.pressed) (c.in_ok-tell_active.ensures (OfLine number) b s h)))
