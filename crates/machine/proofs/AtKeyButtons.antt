-- An invariant: keys go down at key buttons alone.
use Rattle.std.specs.Prelude.{◌≡◌, refl, Bool, true, false, ◌&&◌, List, [], ◌∷◌, ◌++◌}
use Rattle.std.specs.List.{list_all}
use Rattle.std.proofs.Common.{arith}
use Rattle.message_codec.specs.declared.messages.Msg.{Msg}
use Rattle.message_codec.specs.declared.messages.Msg.TheVariants as msg
use Rattle.hotkey_rules.specs.declared.rule.Rule.{Rule}
use Rattle.machine.specs.Scripts.{Line}
use Rattle.machine.specs.Targets.{Target, Primary, Entry, Origin, Own}
use Rattle.machine.specs.States.{State}
use Rattle.machine.specs.Routing.{route, entry}
use Rattle.machine.specs.Switching.{entering, at_screen, tell_leaving}
use Rattle.machine.specs.KeyButtons.{is_key_button, pressed_by_message, pressed_by_rule, pressed_by_line}
use Rattle.machine.proofs.MessageKinds.{is_plain}
use Rattle.machine.proofs.Invariant.{View, On, IsInvariant}
use Rattle.machine.proofs.AnyButton.{any_origin}

abbrev pub of_entry : Entry → Bool
of_entry e = pressed_by_message is_key_button e.message

pub record AreAtKeyButtons (entries : List Entry) (hotkeys : List Rule) (lines : List Line) : Type 0 where
  pub routed : list_all of_entry entries ≡ true
  pub rules : list_all (pressed_by_rule is_key_button) hotkeys ≡ true
  pub script : list_all (pressed_by_line is_key_button) lines ≡ true

abbrev pub AtKeyButtons : View → Type 0
AtKeyButtons v = AreAtKeyButtons v.routed v.hotkeys v.lines

pub all-more : (test : Entry → Bool) (routed : List Entry) (e : Entry) → test e ≡ true → list_all test routed ≡ true → list_all test (routed ++ e ∷ []) ≡ true
all-more test [] e h k = grind (arith, h)
all-more test (r ∷ routed) e h k = front (test r) k (all-more test routed e h)
  where
    front : (b : Bool) → (b && list_all test routed) ≡ true → (list_all test routed ≡ true → list_all test (routed ++ e ∷ []) ≡ true) → (b && list_all test (routed ++ e ∷ [])) ≡ true
    front true k later = later k
    front false k later = k

plain_presses : (m : Msg) → is_plain m ≡ true → pressed_by_message is_key_button m ≡ true
plain_presses (msg.KeyDown id mask button) p = grind (arith, p)
plain_presses m p = refl

one : (o : Origin) (t : Target) (m : Msg) (s : State) → pressed_by_message is_key_button m ≡ true → On AtKeyButtons s → On AtKeyButtons (route o t m s)
one o t m s b h = record { routed = all-more of_entry s.routed (entry o t m s) b h.routed; rules = h.rules; script = h.script }

pub invariant : IsInvariant is_key_button any_origin AtKeyButtons
invariant = record {
  own = refl;
  rules = λ s h. h.rules;
  script = λ s h. h.script;
  plain = λ o a t m p s k h. one o t m s (plain_presses m p) h;
  input = λ o a m p b s h. one o s.active m s b h;
  switched = λ o a to p s on h. one o to (entering p s) (at_screen to p (tell_leaving s)) refl (one Own s.active msg.Leave s refl h);
  fell = λ p s off h. one Own Primary (entering p s) (at_screen Primary p s) refl h;
  changed = λ serial f tame same stays s h. h;
  parts = λ cause serial s on h. h;
  discards = λ serial s off h. h;
  logged = λ lines s h. h;
  ahead = λ lines k s h. record { routed = h.routed; rules = h.rules; script = k };
}
