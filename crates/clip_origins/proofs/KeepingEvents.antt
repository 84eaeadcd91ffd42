-- What events and actions keep.
use Rattle.std.specs.Prelude.{ℕ, ℤ, not, ◌&&◌, List, [], ◌∷◌, Option, Some, None}
use Rattle.share_base.specs.declared.shape.Side.{Side}
use Rattle.screen_links.specs.declared.link.Landing.{Landing}
use Rattle.hotkey_rules.specs.declared.action.Action.{Action}
use Rattle.hotkey_rules.specs.declared.action.Action.TheVariants as action
use Rattle.machine.specs.Scripts.{Line, KeyDown, KeyUp, ButtonDown, ButtonUp}
use Rattle.machine.specs.Targets.{Target, Origin, OfLine, OfAction, same_target}
use Rattle.machine.specs.States.{State}
use Rattle.machine.specs.Combining.{for_some, unchanged}
use Rattle.machine.specs.Screens.{shape_of, target_of, middle}
use Rattle.machine.specs.Edges.{Way, landing, edge_at_cursor, first_way}
use Rattle.machine.specs.Crossing.{Cross, Stay, Switch, entry_point, cross, moved_point}
use Rattle.machine.specs.Switching.{switch}
use Rattle.machine.specs.Actions.{act, act_all, may_switch, switch_to, switch_toward, enter_landing}
use Rattle.machine.specs.Routes.{Route, Hotkey, Nothing, One, route_of, moves_by}
use Rattle.machine.specs.Events.{holding, go_if, gate_hears, moved, move, move_by, motion, event}
use Rattle.machine.proofs.Rules.{when-keeps-if, choose-keeps, for_some-keeps}
use Rattle.clip_origins.proofs.Keeping.{Clipped, On, IsKept}
use Rattle.clip_origins.proofs.KeepingPartings.{switch-keeps}

-- ---- actions

switch_to-keeps : {P : Clipped} (i : IsKept P) (o : Origin) (t : Target) (s : State) → On P s → On P (switch_to o t s)
switch_to-keeps {P} i o t s h = when-keeps-if (On P) (may_switch s && not (same_target t s.active)) (switch o t (middle (shape_of s t))) s (λ e. switch-keeps i o t (middle (shape_of s t)) s h) h

enter_landing-keeps : {P : Clipped} (i : IsKept P) (o : Origin) (side : Side) (l : Landing) (s : State) → On P s → On P (enter_landing o side l s)
enter_landing-keeps {P} i o side l s h = for_some-keeps (On P) (target_of s l.screen.0) (λ t. switch o t (entry_point side (shape_of s t) l.t)) unchanged s (λ t e. switch-keeps i o t (entry_point side (shape_of s t) l.t) s h) h

switch_toward-keeps : {P : Clipped} (i : IsKept P) (o : Origin) (side : Side) (s : State) → On P s → On P (switch_toward o side s)
switch_toward-keeps {P} i o side s h = when-keeps-if (On P) (may_switch s) (for_some (landing s (edge_at_cursor s side)) (enter_landing o side) unchanged) s (λ e. for_some-keeps (On P) (landing s (edge_at_cursor s side)) (enter_landing o side) unchanged s (λ l f. enter_landing-keeps i o side l s h) h) h

act-keeps : {P : Clipped} (i : IsKept P) (o : Origin) (x : Action) (s : State) → On P s → On P (act o x s)
act-keeps i o (action.KeyStroke id mods button) s h = h
act-keeps i o (action.KeyPress id mods button) s h = h
act-keeps i o (action.KeyRelease id mods button) s h = h
act-keeps i o (action.MouseClick mods n) s h = h
act-keeps i o (action.MousePress mods n) s h = h
act-keeps i o (action.MouseRelease mods n) s h = h
act-keeps i o (action.Lock mode) s h = h
act-keeps {P} i o (action.SwitchTo screen) s h = for_some-keeps (On P) (target_of s screen.0) (switch_to o) unchanged s (λ t e. switch_to-keeps i o t s h) h
act-keeps i o (action.SwitchToward side) s h = switch_toward-keeps i o side s h

act_all-keeps : {P : Clipped} (i : IsKept P) (o : Origin) (list : List Action) (s : State) → On P s → On P (act_all o list s)
act_all-keeps i o [] s h = h
act_all-keeps i o (x ∷ list) s h = act_all-keeps i o list (act o x s) (act-keeps i o x s h)

-- ---- events

holding-keeps : (P : Clipped) (l : Line) (s : State) → On P s → On P (holding l s)
holding-keeps P (KeyDown id button) s h = h
holding-keeps P (KeyUp button) s h = h
holding-keeps P (ButtonDown b) s h = h
holding-keeps P (ButtonUp b) s h = h
holding-keeps P l s h = h

go_if-keeps : {P : Clipped} (i : IsKept P) (number : ℕ) (o : Option Route) (s : State) → On P s → On P (go_if number o s)
go_if-keeps i number None s h = h
go_if-keeps i number (Some (Hotkey actions)) s h = act_all-keeps i (OfAction number) actions s h
go_if-keeps i number (Some Nothing) s h = h
go_if-keeps i number (Some (One target message)) s h = h

pub event-keeps : {P : Clipped} (i : IsKept P) (number : ℕ) (l : Line) (s : State) → On P s → On P (event number l s)
event-keeps {P} i number l s h = go_if-keeps i number (route_of s l) (holding l s) (holding-keeps P l s h)

-- ---- motions

gate_hears-keeps : (P : Clipped) (o : Option Way) (s : State) → On P s → On P (gate_hears o s)
gate_hears-keeps P None s h = h
gate_hears-keeps P (Some w) s h = h

moved-keeps : {P : Clipped} (i : IsKept P) (number : ℕ) (c : Cross) (s : State) → On P s → On P (moved number c s)
moved-keeps i number (Stay p) s h = h
moved-keeps i number (Switch to p) s h = switch-keeps i (OfLine number) to p s h

move-keeps : {P : Clipped} (i : IsKept P) (number : ℕ) (dx dy : ℤ) (s : State) → On P s → On P (move number dx dy s)
move-keeps {P} i number dx dy s h =
    let o : Option Way = first_way s (moved_point s dx dy) in
    moved-keeps i number (cross s dx dy) (gate_hears o s) (gate_hears-keeps P o s h)

pub motion-keeps : {P : Clipped} (i : IsKept P) (number : ℕ) (dx dy : ℤ) (s : State) → On P s → On P (motion number dx dy s)
motion-keeps {P} i number dx dy s h = choose-keeps (On P) (moves_by s) (move_by number dx dy) (move number dx dy) s (λ e. h) (λ e. move-keeps i number dx dy s h)
