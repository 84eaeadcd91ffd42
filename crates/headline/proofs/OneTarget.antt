-- Each input event goes one way.
use Rattle.std.specs.Prelude.{◌≡◌, refl, Bool, true, false, is_some, List, ◌++◌, slice_index_or, Option, Some, None, if◌then◌else◌}
use Rattle.std.proofs.Common.{ap, inl, inr}
use Rattle.share_base.specs.declared.numbers.RuleNo.{RuleNo}
use Rattle.message_codec.specs.declared.messages.Msg.TheVariants as msg
use Rattle.hotkey_rules.specs.Rules.{press_of, release_of}
use Rattle.hub_acts.specs.declared.act.Act.{Act}
use Rattle.machine.specs.Scripts.{Line, Sleep, Await, KeyDown, KeyRepeat, KeyUp, ButtonDown, ButtonUp, Motion, Wheel, Saver, Copy, Quit}
use Rattle.machine.specs.States.{State}
use Rattle.machine.specs.Modifiers.{mask, id_at}
use Rattle.machine.specs.Crossing.{Cross, Stay, Switch, cross}
use Rattle.machine.specs.Routes.{One, route_of, key_rule, button_rule, taking, to_hotkey, unless_taken, moves_by, of_cross}
use Rattle.machine.specs.OneForOne.{RunLine}
use Rattle.machine.proofs.OneForOneLaw.{one_for_one}
use Rattle.reached_states.specs.Reaching.{Origin}
use Rattle.reached_states.proofs.Promises.{all-queued-where-reached}
use Rattle.attentive_acts.specs.Telling.{happenings}
use Rattle.headline.specs.Moments.{state_over, lines_over, Throughout}
use Rattle.headline.specs.OneTarget.{GoesBy, GoesOneWay, EachGoesOneWay}
use Rattle.headline.specs.Sharing.{AreAttended}
use Rattle.headline.proofs.Moments.{Moment, moments, moment-reached}

goes_by : (s : State) (l : Line) → GoesBy s l (route_of s l)
goes_by s (Sleep ms) = refl
goes_by s (Await screen) = refl
goes_by s (KeyDown id button) = at (key_rule s id) refl
  where
    at : (rule : Option RuleNo) → key_rule s id ≡ rule → GoesBy s (KeyDown id button) (Some (to_hotkey (press_of s.config.hotkeys) rule (One s.active (msg.KeyDown id (mask s) button))))
    at None e = inl refl
    at (Some n) e = record { number = n; found = e; actions_are = refl }
goes_by s (KeyRepeat count button) = at (taking s.taken_keys button) refl
  where
    at : (rule : Option RuleNo) → taking s.taken_keys button ≡ rule → GoesBy s (KeyRepeat count button) (Some (unless_taken rule (One s.active (msg.KeyRepeat (id_at s button) (mask s) count button))))
    at None e = inl refl
    at (Some n) e = ap (λ (o : Option RuleNo). is_some o) e
goes_by s (KeyUp button) = at (taking s.taken_keys button) refl
  where
    at : (rule : Option RuleNo) → taking s.taken_keys button ≡ rule → GoesBy s (KeyUp button) (Some (to_hotkey (release_of s.config.hotkeys) rule (One s.active (msg.KeyUp (id_at s button) (mask s) button))))
    at None e = inl refl
    at (Some n) e = record { number = n; found = e; actions_are = refl }
goes_by s (ButtonDown b) = at (button_rule s b) refl
  where
    at : (rule : Option RuleNo) → button_rule s b ≡ rule → GoesBy s (ButtonDown b) (Some (to_hotkey (press_of s.config.hotkeys) rule (One s.active (msg.ButtonDown b))))
    at None e = inl refl
    at (Some n) e = record { number = n; found = e; actions_are = refl }
goes_by s (ButtonUp b) = at (taking s.taken_buttons b) refl
  where
    at : (rule : Option RuleNo) → taking s.taken_buttons b ≡ rule → GoesBy s (ButtonUp b) (Some (to_hotkey (release_of s.config.hotkeys) rule (One s.active (msg.ButtonUp b))))
    at None e = inl refl
    at (Some n) e = record { number = n; found = e; actions_are = refl }
goes_by s (Motion dx dy) = at (moves_by s) (cross s dx dy) refl
  where
    at : (b : Bool) (c : Cross) → cross s dx dy ≡ c → GoesBy s (Motion dx dy) (Some (if b then One s.active (msg.MoveBy dx dy) else of_cross s c))
    at true c e = inl refl
    at false (Stay p) e = inl refl
    at false (Switch to p) e = inr (p, e, refl)
goes_by s (Wheel dx dy) = inl refl
goes_by s (Saver on) = refl
goes_by s (Copy clip bytes) = refl
goes_by s Quit = refl

pub goes-one-way : (r : RunLine) → GoesOneWay r
goes-one-way r = goes_by r.state r.line

pub each-goes-one-way : (o : Origin) (turns closings : List Act) → AreAttended o turns closings → Throughout (EachGoesOneWay o) (turns ++ closings)
each-goes-one-way o turns closings w before after e =
    let m : Moment o before = moments o turns closings w before after e in
    record {
      ways = λ k d within. goes-one-way (slice_index_or (lines_over o before) k d);
      entries = one_for_one o.config o.script o.now (happenings before);
      queued = all-queued-where-reached o _ (state_over o before) (moment-reached o before m);
    }
