-- Events and actions keep every invariant.
use Rattle.std.specs.Prelude.{◌≡◌, refl, ℕ, zero, suc, ℤ, Bool, true, false, not, ◌&&◌, List, [], ◌∷◌, Option, Some, None, unwrap_or, slice_get, if◌then◌else◌}
use Rattle.std.specs.List.{list_all}
use Rattle.std.specs.Option.{option_map}
use Rattle.std.proofs.Common.{arith, subst, inl}
use Rattle.std.proofs.lemmas.Bool.{and_parts}
use Rattle.share_base.specs.declared.shape.Side.{Side}
use Rattle.share_base.specs.declared.numbers.RuleNo.{RuleNo}
use Rattle.screen_links.specs.declared.link.Landing.{Landing}
use Rattle.message_codec.specs.declared.messages.Msg.{Msg}
use Rattle.message_codec.specs.declared.messages.Msg.TheVariants as msg
use Rattle.hotkey_rules.specs.Rules.{press_of, release_of}
use Rattle.hotkey_rules.specs.declared.action.Action.{Action}
use Rattle.hotkey_rules.specs.declared.action.Action.TheVariants as action
use Rattle.hotkey_rules.specs.declared.rule.Rule.{Rule}
use Rattle.machine.specs.Scripts.{Line}
use Rattle.machine.specs.Scripts as line
use Rattle.machine.specs.Targets.{Target, Primary, Origin, OfLine, OfAction, same_target}
use Rattle.machine.specs.States.{State, Point}
use Rattle.machine.specs.Combining.{for_some, unchanged}
use Rattle.machine.specs.Screens.{shape_of, target_of, middle}
use Rattle.machine.specs.Routing.{route}
use Rattle.machine.specs.Modifiers.{mask, id_at}
use Rattle.machine.specs.GateCalls.{passes, hear_away}
use Rattle.machine.specs.Edges.{Way, landing, edge_at_cursor, first_way}
use Rattle.machine.specs.Crossing.{Cross, Stay, Switch, through, switch_at, entry_point, stay, cross, cross_by, moved_point}
use Rattle.machine.specs.Switching.{switch}
use Rattle.machine.specs.Actions.{act, act_all, may_switch, switch_to, switch_toward, enter_landing}
use Rattle.machine.specs.Routes.{One, moves_by, key_rule, button_rule, taking, to_hotkey, unless_taken}
use Rattle.machine.specs.Events.{holding, go, gate_hears, moved, move, move_by, motion, event}
use Rattle.machine.specs.KeyButtons.{pressed_by_message, pressed_by_action, pressed_by_rule}
use Rattle.machine.proofs.MessageKinds.{is_plain, is_input}
use Rattle.machine.proofs.Rules.{when-keeps-if, choose-keeps, for_some-keeps, for_passing-keeps}
use Rattle.machine.proofs.Live.{IsLive, target-live}
use Rattle.machine.proofs.Invariant.{View, On, IsInvariant}
use Rattle.machine.proofs.KeepPartings.{switch-keeps}

-- ---- actions

switch_to-keeps : {key : ℕ → Bool} {allowed : Origin → Bool} {P : View → Type 0} (i : IsInvariant key allowed P) (o : Origin) → allowed o ≡ true → (t : Target) (s : State) → IsLive s.connections t → On P s → On P (switch_to o t s)
switch_to-keeps {P = P} i o a t s on h = when-keeps-if (On P) (may_switch s && not (same_target t s.active)) (switch o t (middle (shape_of s t))) s (λ e. switch-keeps i o a t (middle (shape_of s t)) s on h) h

enter_landing-keeps : {key : ℕ → Bool} {allowed : Origin → Bool} {P : View → Type 0} (i : IsInvariant key allowed P) (o : Origin) → allowed o ≡ true → (side : Side) (l : Landing) (s : State) → On P s → On P (enter_landing o side l s)
enter_landing-keeps {P = P} i o a side l s h = for_some-keeps (On P) (target_of s l.screen.0) (λ t. switch o t (entry_point side (shape_of s t) l.t)) unchanged s (λ t e. switch-keeps i o a t (entry_point side (shape_of s t) l.t) s (target-live s l.screen.0 t e) h) h

switch_toward-keeps : {key : ℕ → Bool} {allowed : Origin → Bool} {P : View → Type 0} (i : IsInvariant key allowed P) (o : Origin) → allowed o ≡ true → (side : Side) (s : State) → On P s → On P (switch_toward o side s)
switch_toward-keeps {P = P} i o a side s h = when-keeps-if (On P) (may_switch s) (for_some (landing s (edge_at_cursor s side)) (enter_landing o side) unchanged) s (λ e. for_some-keeps (On P) (landing s (edge_at_cursor s side)) (enter_landing o side) unchanged s (λ l f. enter_landing-keeps i o a side l s h) h) h

pub act-keeps : {key : ℕ → Bool} {allowed : Origin → Bool} {P : View → Type 0} (i : IsInvariant key allowed P) (o : Origin) → allowed o ≡ true → (x : Action) → pressed_by_action key x ≡ true → (s : State) → On P s → On P (act o x s)
act-keeps i o a (action.KeyStroke id mods button) b s h = i.input o a (msg.KeyUp id.0 mods.0 button.0) refl refl (route o s.active (msg.KeyDown id.0 mods.0 button.0) s) (i.input o a (msg.KeyDown id.0 mods.0 button.0) refl b s h)
act-keeps i o a (action.KeyPress id mods button) b s h = i.input o a (msg.KeyDown id.0 mods.0 button.0) refl b s h
act-keeps i o a (action.KeyRelease id mods button) b s h = i.input o a (msg.KeyUp id.0 mods.0 button.0) refl refl s h
act-keeps i o a (action.MouseClick mods n) b s h = i.input o a (msg.ButtonUp n.0) refl refl (route o s.active (msg.ButtonDown n.0) s) (i.input o a (msg.ButtonDown n.0) refl refl s h)
act-keeps i o a (action.MousePress mods n) b s h = i.input o a (msg.ButtonDown n.0) refl refl s h
act-keeps i o a (action.MouseRelease mods n) b s h = i.input o a (msg.ButtonUp n.0) refl refl s h
act-keeps i o a (action.Lock mode) b s h = h
act-keeps {P = P} i o a (action.SwitchTo screen) b s h = for_some-keeps (On P) (target_of s screen.0) (switch_to o) unchanged s (λ t e. switch_to-keeps i o a t s (target-live s screen.0 t e) h) h
act-keeps i o a (action.SwitchToward side) b s h = switch_toward-keeps i o a side s h

pub act_all-keeps : {key : ℕ → Bool} {allowed : Origin → Bool} {P : View → Type 0} (i : IsInvariant key allowed P) (o : Origin) → allowed o ≡ true → (list : List Action) → list_all (pressed_by_action key) list ≡ true → (s : State) → On P s → On P (act_all o list s)
act_all-keeps {key} {P = P} i o a list b s h = for_passing-keeps (On P) (pressed_by_action key) list (act o) (act-keeps i o a) b s h

-- ---- motions

-- a way leads to a target that lives
pub through-live : (s : State) (w : Way) (to : Target) (p : Point) → through s w ≡ Switch to p → IsLive s.connections to
through-live s w to p h = by (target_of s w.landing.screen.0) refl h
  where
    goes_to : (t : Target) → switch_at s w t ≡ Switch to p → t ≡ to
    goes_to t h = grind (arith, h)

    by : (o : Option Target) → target_of s w.landing.screen.0 ≡ o → switch_at s w (unwrap_or o Primary) ≡ Switch to p → IsLive s.connections to
    by None e h = subst (IsLive s.connections) (goes_to Primary h) tt
    by (Some t) e h = subst (IsLive s.connections) (goes_to t h) (target-live s w.landing.screen.0 t e)

of_test : (s : State) (w : Way) (point : Point) (b : Bool) (to : Target) (p : Point) → (if b then through s w else stay s point) ≡ Switch to p → IsLive s.connections to
of_test s w point true to p h = through-live s w to p h
of_test s w point false to p h = grind (arith, h)

cross-live : (s : State) (point : Point) (o : Option Way) (to : Target) (p : Point) → cross_by s point o ≡ Switch to p → IsLive s.connections to
cross-live s point None to p h = grind (arith, h)
cross-live s point (Some w) to p h = of_test s w point (passes s w.side) to p h

move-keeps : {key : ℕ → Bool} {allowed : Origin → Bool} {P : View → Type 0} (i : IsInvariant key allowed P) (number : ℕ) → allowed (OfLine number) ≡ true → (dx dy : ℤ) (s : State) → On P s → On P (move number dx dy s)
move-keeps {P = P} i number a dx dy s h = by (first_way s (moved_point s dx dy)) (cross s dx dy) (cross-live s (moved_point s dx dy) (first_way s (moved_point s dx dy)))
  where
    by : (o : Option Way) (c : Cross) → ((to : Target) (p : Point) → c ≡ Switch to p → IsLive s.connections to) → On P (moved number c (gate_hears o s))
    by None (Stay p) on = i.plain (OfLine number) a s.active (msg.MoveTo p.x p.y) refl (record (gate_hears None s) { cursor = p }) (inl refl) h
    by (Some w) (Stay p) on = i.plain (OfLine number) a s.active (msg.MoveTo p.x p.y) refl (record (gate_hears (Some w) s) { cursor = p }) (inl refl) h
    by None (Switch to p) on = switch-keeps i (OfLine number) a to p (gate_hears None s) (on to p refl) h
    by (Some w) (Switch to p) on = switch-keeps i (OfLine number) a to p (gate_hears (Some w) s) (on to p refl) h

pub motion-keeps : {key : ℕ → Bool} {allowed : Origin → Bool} {P : View → Type 0} (i : IsInvariant key allowed P) (number : ℕ) → allowed (OfLine number) ≡ true → (dx dy : ℤ) (s : State) → On P s → On P (motion number dx dy s)
motion-keeps {P = P} i number a dx dy s h = choose-keeps (On P) (moves_by s) (move_by number dx dy) (move number dx dy) s (λ e. i.plain (OfLine number) a s.active (msg.MoveBy dx dy) refl (hear_away s) (inl refl) h) (λ e. move-keeps i number a dx dy s h)

-- ---- the lists of a rule

rule_passes : (key : ℕ → Bool) (rules : List Rule) → list_all (pressed_by_rule key) rules ≡ true → (n : ℕ) (rule : Rule) → slice_get rules n ≡ Some rule → pressed_by_rule key rule ≡ true
rule_passes key [] h n rule e = grind (arith, e)
rule_passes key (r ∷ rules) h zero rule e = let is : r ≡ rule = grind (arith, e) in subst (λ x. pressed_by_rule key x ≡ true) is (and_parts (pressed_by_rule key r) (list_all (pressed_by_rule key) rules) h).0
rule_passes key (r ∷ rules) h (suc n) rule e = rule_passes key rules (and_parts (pressed_by_rule key r) (list_all (pressed_by_rule key) rules) h).1 n rule e

pub press-passes : (key : ℕ → Bool) (rules : List Rule) → list_all (pressed_by_rule key) rules ≡ true → (r : RuleNo) → list_all (pressed_by_action key) (unwrap_or (press_of rules r) []) ≡ true
press-passes key rules h r = by (slice_get rules r.0) refl
  where
    by : (o : Option Rule) → slice_get rules r.0 ≡ o → list_all (pressed_by_action key) (unwrap_or (option_map (λ (rule : Rule). rule.press) o) []) ≡ true
    by None e = refl
    by (Some rule) e = (and_parts (list_all (pressed_by_action key) rule.press) (list_all (pressed_by_action key) rule.release) (rule_passes key rules h r.0 rule e)).0

pub release-passes : (key : ℕ → Bool) (rules : List Rule) → list_all (pressed_by_rule key) rules ≡ true → (r : RuleNo) → list_all (pressed_by_action key) (unwrap_or (release_of rules r) []) ≡ true
release-passes key rules h r = by (slice_get rules r.0) refl
  where
    by : (o : Option Rule) → slice_get rules r.0 ≡ o → list_all (pressed_by_action key) (unwrap_or (option_map (λ (rule : Rule). rule.release) o) []) ≡ true
    by None e = refl
    by (Some rule) e = (and_parts (list_all (pressed_by_action key) rule.press) (list_all (pressed_by_action key) rule.release) (rule_passes key rules h r.0 rule e)).1

-- ---- keys and buttons

-- it goes to the active screen, or to a hotkey
to_hotkey-keeps : {key : ℕ → Bool} {allowed : Origin → Bool} {P : View → Type 0} (i : IsInvariant key allowed P) (number : ℕ) → allowed (OfLine number) ≡ true → allowed (OfAction number) ≡ true → (list : RuleNo → Option (List Action)) (rule : Option RuleNo) (m : Msg) → ((r : RuleNo) → list_all (pressed_by_action key) (unwrap_or (list r) []) ≡ true) → is_input m ≡ true → pressed_by_message key m ≡ true → (s : State) → On P s → On P (go number (to_hotkey list rule (One s.active m)) s)
to_hotkey-keeps i number a b list None m l p k s h = i.input (OfLine number) a m p k s h
to_hotkey-keeps i number a b list (Some rule) m l p k s h = act_all-keeps i (OfAction number) b (unwrap_or (list rule) []) (l rule) s h

unless_taken-keeps : {key : ℕ → Bool} {allowed : Origin → Bool} {P : View → Type 0} (i : IsInvariant key allowed P) (number : ℕ) → allowed (OfLine number) ≡ true → (rule : Option RuleNo) (m : Msg) → is_plain m ≡ true → (s : State) → On P s → On P (go number (unless_taken rule (One s.active m)) s)
unless_taken-keeps i number a None m p s h = i.plain (OfLine number) a s.active m p s (inl refl) h
unless_taken-keeps i number a (Some rule) m p s h = h

pub key_down-keeps : {key : ℕ → Bool} {allowed : Origin → Bool} {P : View → Type 0} (i : IsInvariant key allowed P) (number : ℕ) → allowed (OfLine number) ≡ true → allowed (OfAction number) ≡ true → (id button : ℕ) → key button ≡ true → (s : State) → On P s → On P (event number (line.KeyDown id button) s)
key_down-keeps {key} i number a b id button k s h = to_hotkey-keeps i number a b (press_of s.config.hotkeys) (key_rule s id) (msg.KeyDown id (mask s) button) (press-passes key s.config.hotkeys (i.rules s h)) refl k (holding (line.KeyDown id button) s) h

pub key_repeat-keeps : {key : ℕ → Bool} {allowed : Origin → Bool} {P : View → Type 0} (i : IsInvariant key allowed P) (number : ℕ) → allowed (OfLine number) ≡ true → (count button : ℕ) (s : State) → On P s → On P (event number (line.KeyRepeat count button) s)
key_repeat-keeps i number a count button s h = unless_taken-keeps i number a (taking s.taken_keys button) (msg.KeyRepeat (id_at s button) (mask s) count button) refl s h

pub key_up-keeps : {key : ℕ → Bool} {allowed : Origin → Bool} {P : View → Type 0} (i : IsInvariant key allowed P) (number : ℕ) → allowed (OfLine number) ≡ true → allowed (OfAction number) ≡ true → (button : ℕ) (s : State) → On P s → On P (event number (line.KeyUp button) s)
key_up-keeps {key} i number a b button s h = to_hotkey-keeps i number a b (release_of s.config.hotkeys) (taking s.taken_keys button) (msg.KeyUp (id_at s button) (mask s) button) (release-passes key s.config.hotkeys (i.rules s h)) refl refl (holding (line.KeyUp button) s) h

pub button_down-keeps : {key : ℕ → Bool} {allowed : Origin → Bool} {P : View → Type 0} (i : IsInvariant key allowed P) (number : ℕ) → allowed (OfLine number) ≡ true → allowed (OfAction number) ≡ true → (n : ℕ) (s : State) → On P s → On P (event number (line.ButtonDown n) s)
button_down-keeps {key} i number a b n s h = to_hotkey-keeps i number a b (press_of s.config.hotkeys) (button_rule s n) (msg.ButtonDown n) (press-passes key s.config.hotkeys (i.rules s h)) refl refl (holding (line.ButtonDown n) s) h

pub button_up-keeps : {key : ℕ → Bool} {allowed : Origin → Bool} {P : View → Type 0} (i : IsInvariant key allowed P) (number : ℕ) → allowed (OfLine number) ≡ true → allowed (OfAction number) ≡ true → (n : ℕ) (s : State) → On P s → On P (event number (line.ButtonUp n) s)
button_up-keeps {key} i number a b n s h = to_hotkey-keeps i number a b (release_of s.config.hotkeys) (taking s.taken_buttons n) (msg.ButtonUp n) (release-passes key s.config.hotkeys (i.rules s h)) refl refl (holding (line.ButtonUp n) s) h

pub wheel-keeps : {key : ℕ → Bool} {allowed : Origin → Bool} {P : View → Type 0} (i : IsInvariant key allowed P) (number : ℕ) → allowed (OfLine number) ≡ true → (dx dy : ℤ) (s : State) → On P s → On P (event number (line.Wheel dx dy) s)
wheel-keeps i number a dx dy s h = i.plain (OfLine number) a s.active (msg.Wheel dx dy) refl s (inl refl) h
