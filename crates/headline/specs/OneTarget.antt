-- Where the script's input events go: each to the active screen alone, or to its hotkey.
use Rattle.std.specs.Prelude.{◌≡◌, Bool, true, false, is_some, List, [], Option, Some, None, unwrap_or, All, ◌⊎◌}
use Rattle.share_base.specs.declared.numbers.RuleNo.{RuleNo}
use Rattle.message_codec.specs.declared.messages.Msg.{Msg}
use Rattle.hotkey_rules.specs.declared.action.Action.{Action}
use Rattle.hotkey_rules.specs.Rules.{press_of, release_of}
use Rattle.machine.specs.Scripts.{Line, KeyDown, KeyRepeat, KeyUp, ButtonDown, ButtonUp, Motion, Wheel}
use Rattle.machine.specs.Targets.{Target}
use Rattle.machine.specs.States.{State, Point}
use Rattle.machine.specs.Crossing.{Switch, cross}
use Rattle.machine.specs.Switching.{entering}
use Rattle.machine.specs.Routes.{Route, Hotkey, Nothing, One, route_of, key_rule, button_rule, taking}
use Rattle.machine.specs.OneForOne.{RunLine, IsOneForOne}
use Rattle.machine.specs.NothingLeftOut.{NothingIsLeftOut}
use Rattle.reached_states.specs.Reaching.{Origin}
use Rattle.hub_acts.specs.declared.act.Act.{Act}
use Rattle.headline.specs.Moments.{state_over, lines_over}

-- a key, a button of the mouse, the wheel or a motion
abbrev pub is_input : Line → Bool
is_input (KeyDown id button) = true
is_input (KeyRepeat count button) = true
is_input (KeyUp button) = true
is_input (ButtonDown b) = true
is_input (ButtonUp b) = true
is_input (Motion dx dy) = true
is_input (Wheel dx dy) = true
is_input _ = false

-- ---- the ways of an event

-- a motion that crosses to another screen is told to that one, as its entering
abbrev pub Crosses : State → Line → Target → Msg → Type 0
Crosses s (Motion dx dy) target message =
    (p : Point) × (cross s dx dy ≡ Switch target p) × (message ≡ entering p s)
Crosses s _ target message = ⊥

-- a rule is the one, and these are its list
pub record IsListOf (rule : Option RuleNo) (list : RuleNo → Option (List Action))
    (actions : List Action) : Type 0 where
  pub number : RuleNo
  pub found : rule ≡ Some number
  pub actions_are : actions ≡ unwrap_or (list number) []

-- the press list of the first rule that matches; the release list of the rule that took the press
abbrev pub IsHotkeyOf : State → Line → List Action → Type 0
IsHotkeyOf s (KeyDown id button) actions =
    IsListOf (key_rule s id) (press_of s.config.hotkeys) actions
IsHotkeyOf s (KeyUp button) actions =
    IsListOf (taking s.taken_keys button) (release_of s.config.hotkeys) actions
IsHotkeyOf s (ButtonDown b) actions =
    IsListOf (button_rule s b) (press_of s.config.hotkeys) actions
IsHotkeyOf s (ButtonUp b) actions =
    IsListOf (taking s.taken_buttons b) (release_of s.config.hotkeys) actions
IsHotkeyOf s _ actions = ⊥

-- the repeat of a key that a hotkey took
abbrev pub IsTakenRepeat : State → Line → Type 0
IsTakenRepeat s (KeyRepeat count button) = is_some (taking s.taken_keys button) ≡ true
IsTakenRepeat s _ = ⊥

-- to one screen, the active one or the one that a motion crosses to; to its hotkey; or nowhere
abbrev pub GoesBy : State → Line → Option Route → Type 0
GoesBy s l (Some (One target message)) = (target ≡ s.active) ⊎ Crosses s l target message
GoesBy s l (Some (Hotkey actions)) = IsHotkeyOf s l actions
GoesBy s l (Some Nothing) = IsTakenRepeat s l
GoesBy s l None = is_input l ≡ false

abbrev pub GoesOneWay : RunLine → Type 0
GoesOneWay r = GoesBy r.state r.line (route_of r.state r.line)

-- ---- all events of a run

-- each event that ran goes one way; what was told for the events is one entry for each that goes to
-- a screen, in their order, and the actions of each that goes to its hotkey; and what a connection
-- that lives was told is in its queue
pub record EachGoesOneWay (o : Origin) (acts : List Act) : Type 0 where
  pub ways : All GoesOneWay (lines_over o acts)
  pub entries : IsOneForOne (lines_over o acts) (state_over o acts)
  pub queued : NothingIsLeftOut (state_over o acts)
