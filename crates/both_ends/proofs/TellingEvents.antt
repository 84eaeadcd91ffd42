-- What events and actions do, told by the steps that rules are made of.
use Rattle.std.specs.Prelude.{◌≡◌, refl, ℕ, ℤ, Bool, true, false, not, ◌&&◌, List, [], ◌∷◌, Option, Some, None, unwrap_or, if◌then◌else◌}
use Rattle.std.specs.List.{AllByRecursion}
use Rattle.std.specs.Option.{option_map, option_and_then, option_or}
use Rattle.std.proofs.Common.{sym, subst, ap}
use Rattle.share_base.specs.declared.shape.Side.{Side}
use Rattle.share_base.specs.declared.numbers.RuleNo.{RuleNo}
use Rattle.screen_links.specs.declared.link.Landing.{Landing}
use Rattle.edge_cross.specs.declared.edge.Axis.{Axis}
use Rattle.edge_cross.specs.declared.edge.Axis.TheVariants.{Horizontal, Vertical}
use Rattle.edge_cross.specs.declared.edge.Edge.{Edge}
use Rattle.message_codec.specs.declared.messages.Msg.{Msg}
use Rattle.message_codec.specs.declared.messages.Msg.TheVariants as msg
use Rattle.hotkey_rules.specs.Rules.{press_of, release_of}
use Rattle.hotkey_rules.specs.declared.action.Action.{Action}
use Rattle.hotkey_rules.specs.declared.action.Action.TheVariants as action
use Rattle.machine.specs.Scripts as line
use Rattle.machine.specs.Targets.{Target, Primary, Origin, OfLine, OfAction, same_target}
use Rattle.machine.specs.States.{State, Point}
use Rattle.machine.specs.Combining.{for_some, unchanged}
use Rattle.machine.specs.Screens.{shape_of, target_of, middle}
use Rattle.machine.specs.Routing.{route}
use Rattle.machine.specs.Modifiers.{mask, id_at}
use Rattle.machine.specs.GateCalls.{passes, hear_away}
use Rattle.machine.specs.Edges.{Way, is_blocked, landing, edge_at_cursor, passed_edge, way, way_on, first_way}
use Rattle.machine.specs.Crossing.{Cross, Stay, Switch, through, entry_point, stay, cross, cross_by, moved_point}
use Rattle.machine.specs.Switching.{switch}
use Rattle.machine.specs.Actions.{locked_by, act, act_all, may_switch, switch_to, switch_toward, enter_landing}
use Rattle.machine.specs.Routes.{One, moves_by, key_rule, button_rule, taking, to_hotkey, unless_taken}
use Rattle.machine.specs.Events.{holding, go, gate_hears, moved, move, move_by, motion, event}
use Rattle.machine.proofs.Finding.{none_some, some_is}
use Rattle.machine.proofs.Rules.{when-keeps-if, choose-keeps, for_some-keeps}
use Rattle.both_ends.proofs.Telling.{Kinds, Says, IsTelling}
use Rattle.both_ends.proofs.TellingPartings.{switch-tells}

-- ---- actions

switch_to-tells : {k : Kinds} (i : IsTelling k) (o : Origin) (t : Target) (s : State) → k.state s → k.state (switch_to o t s)
switch_to-tells {k} i o t s h = when-keeps-if k.state (may_switch s && not (same_target t s.active)) (switch o t (middle (shape_of s t))) s (λ e. switch-tells i o t (middle (shape_of s t)) s (i.middles (shape_of s t) (i.shapes s t h)) h) h

enter_landing-tells : {k : Kinds} (i : IsTelling k) (o : Origin) (side : Side) (l : Landing) (s : State) → k.place l.t → k.state s → k.state (enter_landing o side l s)
enter_landing-tells {k} i o side l s at h = for_some-keeps k.state (target_of s l.screen.0) (λ t. switch o t (entry_point side (shape_of s t) l.t)) unchanged s (λ t e. switch-tells i o t (entry_point side (shape_of s t) l.t) s (i.entries side (shape_of s t) l.t (i.shapes s t h) at) h) h

switch_toward-tells : {k : Kinds} (i : IsTelling k) (o : Origin) (side : Side) (s : State) → k.state s → k.state (switch_toward o side s)
switch_toward-tells {k} i o side s h = when-keeps-if k.state (may_switch s) (for_some (landing s (edge_at_cursor s side)) (enter_landing o side) unchanged) s (λ e. for_some-keeps k.state (landing s (edge_at_cursor s side)) (enter_landing o side) unchanged s (λ l f. enter_landing-tells i o side l s (i.places s (edge_at_cursor s side) l f h) h) h) h

act-tells : {k : Kinds} (i : IsTelling k) (o : Origin) (x : Action) → Says k x → (s : State) → k.state s → k.state (act o x s)
act-tells i o (action.KeyStroke id mods button) b s h = i.told o s.active (msg.KeyUp id.0 mods.0 button.0) b.1 (route o s.active (msg.KeyDown id.0 mods.0 button.0) s) (i.told o s.active (msg.KeyDown id.0 mods.0 button.0) b.0 s h)
act-tells i o (action.KeyPress id mods button) b s h = i.told o s.active (msg.KeyDown id.0 mods.0 button.0) b s h
act-tells i o (action.KeyRelease id mods button) b s h = i.told o s.active (msg.KeyUp id.0 mods.0 button.0) b s h
act-tells i o (action.MouseClick mods n) b s h = i.told o s.active (msg.ButtonUp n.0) b.1 (route o s.active (msg.ButtonDown n.0) s) (i.told o s.active (msg.ButtonDown n.0) b.0 s h)
act-tells i o (action.MousePress mods n) b s h = i.told o s.active (msg.ButtonDown n.0) b s h
act-tells i o (action.MouseRelease mods n) b s h = i.told o s.active (msg.ButtonUp n.0) b s h
act-tells i o (action.Lock mode) b s h = i.locks (locked_by mode s.is_locked) s h
act-tells {k} i o (action.SwitchTo screen) b s h = for_some-keeps k.state (target_of s screen.0) (switch_to o) unchanged s (λ t e. switch_to-tells i o t s h) h
act-tells i o (action.SwitchToward side) b s h = switch_toward-tells i o side s h

act_all-tells : {k : Kinds} (i : IsTelling k) (o : Origin) (list : List Action) → AllByRecursion (Says k) list → (s : State) → k.state s → k.state (act_all o list s)
act_all-tells i o [] b s h = h
act_all-tells i o (x ∷ list) b s h = act_all-tells i o list b.1 (act o x s) (act-tells i o x b.0 s h)

-- ---- motions

-- where a way leads is a place
pub way-place : {k : Kinds} (i : IsTelling k) (s : State) (e : Edge) (w : Way) → way s e ≡ Some w → k.state s → k.place w.landing.t
way-place {k} i s e w is h = blocked (is_blocked s e) is
  where
    led : (o : Option Landing) → landing s e ≡ o → option_map (λ (l : Landing). record { side = e.side; landing = l }) o ≡ Some w → k.place w.landing.t
    led None f is = none_some w is
    led (Some l) f is = let same : l ≡ w.landing = ap (λ (v : Way). v.landing) (some_is (record { side = e.side; landing = l }) w is) in subst (λ (x : Landing). k.place x.t) same (i.places s e l f h)

    blocked : (b : Bool) → option_map (λ (l : Landing). record { side = e.side; landing = l }) (if b then None else landing s e) ≡ Some w → k.place w.landing.t
    blocked true is = none_some w is
    blocked false is = led (landing s e) refl is

way_on-place : {k : Kinds} (i : IsTelling k) (s : State) (p : Point) (axis : Axis) (w : Way) → way_on s p axis ≡ Some w → k.state s → k.place w.landing.t
way_on-place {k} i s p axis w is h = by (passed_edge s p axis) is
  where
    by : (o : Option Edge) → option_and_then (way s) o ≡ Some w → k.place w.landing.t
    by None is = none_some w is
    by (Some e) is = way-place i s e w is h

first_way-place : {k : Kinds} (i : IsTelling k) (s : State) (p : Point) (w : Way) → first_way s p ≡ Some w → k.state s → k.place w.landing.t
first_way-place {k} i s p w is h = by (way_on s p Horizontal) refl is
  where
    by : (o : Option Way) → way_on s p Horizontal ≡ o → option_or o (way_on s p Vertical) ≡ Some w → k.place w.landing.t
    by None e is = way_on-place i s p Vertical w is h
    by (Some v) e is = way_on-place i s p Horizontal w (subst (λ (o : Option Way). o ≡ Some w) (sym e) is) h

-- a switch leads to such a point
abbrev pub IsAt : Kinds → Cross → Type 0
IsAt k (Stay p) = k.point p
IsAt k (Switch to p) = k.point p

pub through-at : {k : Kinds} (i : IsTelling k) (s : State) (w : Way) → k.place w.landing.t → k.state s → IsAt k (through s w)
through-at i s w at h =
    let t : Target = unwrap_or (target_of s w.landing.screen.0) Primary in
    i.entries w.side (shape_of s t) w.landing.t (i.shapes s t h) at

stay-at : {k : Kinds} (i : IsTelling k) (s : State) (p : Point) → k.state s → IsAt k (stay s p)
stay-at i s p h = i.clamps (shape_of s s.active) p (i.shapes s s.active h)

of_test : {k : Kinds} (i : IsTelling k) (s : State) (w : Way) (p : Point) (b : Bool) → k.place w.landing.t → k.state s → IsAt k (if b then through s w else stay s p)
of_test i s w p true at h = through-at i s w at h
of_test i s w p false at h = stay-at i s p h

cross_by-at : {k : Kinds} (i : IsTelling k) (s : State) (p : Point) (o : Option Way) → ((w : Way) → o ≡ Some w → k.place w.landing.t) → k.state s → IsAt k (cross_by s p o)
cross_by-at i s p None at h = stay-at i s p h
cross_by-at i s p (Some w) at h = of_test i s w p (passes s w.side) (at w refl) h

gate_hears-tells : {k : Kinds} (i : IsTelling k) (o : Option Way) (s : State) → k.state s → k.state (gate_hears o s)
gate_hears-tells i None s h = i.gate _ s h
gate_hears-tells i (Some w) s h = i.gate _ s h

moved-tells : {k : Kinds} (i : IsTelling k) (number : ℕ) (c : Cross) (s : State) → IsAt k c → k.state s → k.state (moved number c s)
moved-tells i number (Stay p) s at h = i.told (OfLine number) s.active (msg.MoveTo p.x p.y) (i.moves_to p at) (record s { cursor = p }) (i.cursor p s at h)
moved-tells i number (Switch to p) s at h = switch-tells i (OfLine number) to p s at h

move-tells : {k : Kinds} (i : IsTelling k) (number : ℕ) (dx dy : ℤ) (s : State) → k.state s → k.state (move number dx dy s)
move-tells i number dx dy s h =
    let p : Point = moved_point s dx dy in
    let o : Option Way = first_way s p in
    moved-tells i number (cross s dx dy) (gate_hears o s) (cross_by-at i s p o (λ w e. first_way-place i s p w e h) h) (gate_hears-tells i o s h)

pub motion-tells : {k : Kinds} (i : IsTelling k) (number : ℕ) (dx dy : ℤ) (s : State) → k.line (line.Motion dx dy) → k.state s → k.state (motion number dx dy s)
motion-tells {k} i number dx dy s l h = choose-keeps k.state (moves_by s) (move_by number dx dy) (move number dx dy) s (λ e. i.told (OfLine number) s.active (msg.MoveBy dx dy) (i.moves_by dx dy l) (hear_away s) (i.gate _ s h)) (λ e. move-tells i number dx dy s h)

-- ---- keys and buttons

to_hotkey-tells : {k : Kinds} (i : IsTelling k) (number : ℕ) (list : RuleNo → Option (List Action)) (rule : Option RuleNo) (t : Target) (m : Msg) → ((r : RuleNo) → AllByRecursion (Says k) (unwrap_or (list r) [])) → k.message m → (s : State) → k.state s → k.state (go number (to_hotkey list rule (One t m)) s)
to_hotkey-tells i number list None t m a p s h = i.told (OfLine number) t m p s h
to_hotkey-tells i number list (Some rule) t m a p s h = act_all-tells i (OfAction number) (unwrap_or (list rule) []) (a rule) s h

unless_taken-tells : {k : Kinds} (i : IsTelling k) (number : ℕ) (rule : Option RuleNo) (t : Target) (m : Msg) → k.message m → (s : State) → k.state s → k.state (go number (unless_taken rule (One t m)) s)
unless_taken-tells i number None t m p s h = i.told (OfLine number) t m p s h
unless_taken-tells i number (Some rule) t m p s h = h

pub key_down-tells : {k : Kinds} (i : IsTelling k) (number id button : ℕ) (s : State) → k.line (line.KeyDown id button) → k.state s → k.state (event number (line.KeyDown id button) s)
key_down-tells i number id button s l h = to_hotkey-tells i number (press_of s.config.hotkeys) (key_rule s id) s.active (msg.KeyDown id (mask s) button) (λ r. i.pressed s r h) (i.key_down id button s l h) (holding (line.KeyDown id button) s) (i.holds (line.KeyDown id button) s l h)

pub key_repeat-tells : {k : Kinds} (i : IsTelling k) (number count button : ℕ) (s : State) → k.line (line.KeyRepeat count button) → k.state s → k.state (event number (line.KeyRepeat count button) s)
key_repeat-tells i number count button s l h = unless_taken-tells i number (taking s.taken_keys button) s.active (msg.KeyRepeat (id_at s button) (mask s) count button) (i.key_repeat count button s l h) s h

pub key_up-tells : {k : Kinds} (i : IsTelling k) (number button : ℕ) (s : State) → k.line (line.KeyUp button) → k.state s → k.state (event number (line.KeyUp button) s)
key_up-tells i number button s l h = to_hotkey-tells i number (release_of s.config.hotkeys) (taking s.taken_keys button) s.active (msg.KeyUp (id_at s button) (mask s) button) (λ r. i.released s r h) (i.key_up button s l h) (holding (line.KeyUp button) s) (i.holds (line.KeyUp button) s l h)

pub button_down-tells : {k : Kinds} (i : IsTelling k) (number b : ℕ) (s : State) → k.line (line.ButtonDown b) → k.state s → k.state (event number (line.ButtonDown b) s)
button_down-tells i number b s l h = to_hotkey-tells i number (press_of s.config.hotkeys) (button_rule s b) s.active (msg.ButtonDown b) (λ r. i.pressed s r h) (i.button_down b l) (holding (line.ButtonDown b) s) (i.holds (line.ButtonDown b) s l h)

pub button_up-tells : {k : Kinds} (i : IsTelling k) (number b : ℕ) (s : State) → k.line (line.ButtonUp b) → k.state s → k.state (event number (line.ButtonUp b) s)
button_up-tells i number b s l h = to_hotkey-tells i number (release_of s.config.hotkeys) (taking s.taken_buttons b) s.active (msg.ButtonUp b) (λ r. i.released s r h) (i.button_up b l) (holding (line.ButtonUp b) s) (i.holds (line.ButtonUp b) s l h)

pub wheel-tells : {k : Kinds} (i : IsTelling k) (number : ℕ) (dx dy : ℤ) (s : State) → k.line (line.Wheel dx dy) → k.state s → k.state (event number (line.Wheel dx dy) s)
wheel-tells i number dx dy s l h = i.told (OfLine number) s.active (msg.Wheel dx dy) (i.turns dx dy l) s h
