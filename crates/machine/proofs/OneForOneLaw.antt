-- Each input event is routed once: what its line adds is what its route says.
use Rattle.std.specs.Prelude.{◌≡◌, refl, ℕ, ℤ, Bool, true, false, List, [], ◌∷◌, ◌++◌, map, filter, cond, length, drop, Option, Some, None, unwrap_or, if◌then◌else◌}
use Rattle.std.proofs.Common.{sym, ap, ◌∙◌}
use Rattle.std.proofs.lemmas.List.{append-nil}
use Rattle.std.proofs.Math.Seq.{drop-append_seam}
use Rattle.share_base.specs.declared.numbers.RuleNo.{RuleNo}
use Rattle.message_codec.specs.declared.messages.Msg.{Msg}
use Rattle.message_codec.specs.declared.messages.Msg.TheVariants as msg
use Rattle.hotkey_rules.specs.declared.action.Action.{Action}
use Rattle.hotkey_rules.specs.Rules.{press_of, release_of}
use Rattle.machine.specs.Scripts.{Sleep, Await, KeyDown, KeyRepeat, KeyUp, ButtonDown, ButtonUp, Motion, Wheel, Saver, Copy, Quit}
use Rattle.machine.specs.Targets.{Target, Entry, Origin, Own, OfLine, OfAction}
use Rattle.machine.specs.States.{State, Point}
use Rattle.machine.specs.Combining.{choose}
use Rattle.machine.specs.Modifiers.{mask, id_at}
use Rattle.machine.specs.Routing.{route}
use Rattle.machine.specs.GateCalls.{hear_away}
use Rattle.machine.specs.Edges.{Way, first_way}
use Rattle.machine.specs.Crossing.{Cross, Stay, Switch, cross, moved_point}
use Rattle.machine.specs.Switching.{entering, at_screen, tell_entering, tell_leaving, switch}
use Rattle.machine.specs.Actions.{act_all}
use Rattle.machine.specs.Routes.{One, route_of, moves_by, of_cross, key_rule, button_rule, taking, to_hotkey, unless_taken}
use Rattle.machine.specs.Events.{holding, go, gate_hears, moved, move, move_by, motion}
use Rattle.machine.specs.Running.{does}
use Rattle.machine.specs.Acceptance.{start}
use Rattle.machine.specs.OneForOne.{Delivery, delivery, deliveries, is_of_line, is_of_action, by_route, by_line, by_actions, by_hotkey, OneForOne}
use Rattle.machine.proofs.AnyButton.{actions-any}
use Rattle.machine.proofs.OfOrigins.{AreDeliveries, route-delivers, route-other}
use Rattle.machine.proofs.OfOrigins as origins
use Rattle.machine.proofs.Growing as growing
use Rattle.machine.proofs.KeepClipboards.{refresh_both-keeps, copy-keeps}
use Rattle.machine.proofs.KeepEvents.{act_all-keeps}
use Rattle.machine.proofs.KeepScripts.{save-keeps, quit-keeps}
use Rattle.machine.proofs.PerLine.{Adds, run-adds}

-- nothing was added
none_more : (test : Origin → Bool) (s new : State) → deliveries test new.routed ≡ deliveries test s.routed → deliveries test new.routed ≡ deliveries test s.routed ++ []
none_more test s new h = h ∙ sym (append-nil (deliveries test s.routed))

-- ---- for lines

abbrev for_lines : State → List Delivery
for_lines s = deliveries is_of_line s.routed

hotkey-line : (number : ℕ) (list : RuleNo → Option (List Action)) (rule : Option RuleNo) (t : Target) (m : Msg) (s : State) → for_lines (go number (to_hotkey list rule (One t m)) s) ≡ for_lines s ++ by_route number (Some (to_hotkey list rule (One t m)))
hotkey-line number list None t m s = route-delivers is_of_line (OfLine number) t m s
hotkey-line number list (Some rule) t m s = none_more is_of_line s (act_all (OfAction number) (unwrap_or (list rule) []) s) (act_all-keeps (origins.invariant is_of_line refl (for_lines s)) (OfAction number) refl (unwrap_or (list rule) []) (actions-any (unwrap_or (list rule) [])) s refl)

unless-line : (number : ℕ) (rule : Option RuleNo) (t : Target) (m : Msg) (s : State) → for_lines (go number (unless_taken rule (One t m)) s) ≡ for_lines s ++ by_route number (Some (unless_taken rule (One t m)))
unless-line number None t m s = route-delivers is_of_line (OfLine number) t m s
unless-line number (Some rule) t m s = none_more is_of_line s s refl

switch-line : (number : ℕ) (to : Target) (p : Point) (s : State) → for_lines (switch (OfLine number) to p s) ≡ for_lines s ++ by_route number (Some (One to (entering p s)))
switch-line number to p s =
    let left : State = tell_leaving s in
    let kept : for_lines left ≡ for_lines s = route-other is_of_line (for_lines s) Own s.active msg.Leave refl s refl in
    let was : List Delivery = for_lines s ++ by_route number (Some (One to (entering p s))) in
    refresh_both-keeps (origins.invariant is_of_line refl was) (tell_entering (OfLine number) to p left) (route-delivers is_of_line (OfLine number) to (entering p left) (at_screen to p left) ∙ ap (λ ds. ds ++ by_route number (Some (One to (entering p s)))) kept)

moved-line : (number : ℕ) (c : Cross) (o : Option Way) (s : State) → for_lines (moved number c (gate_hears o s)) ≡ for_lines s ++ by_route number (Some (of_cross s c))
moved-line number (Stay p) None s = route-delivers is_of_line (OfLine number) s.active (msg.MoveTo p.x p.y) (record (gate_hears None s) { cursor = p })
moved-line number (Stay p) (Some w) s = route-delivers is_of_line (OfLine number) s.active (msg.MoveTo p.x p.y) (record (gate_hears (Some w) s) { cursor = p })
moved-line number (Switch to p) None s = switch-line number to p (gate_hears None s)
moved-line number (Switch to p) (Some w) s = switch-line number to p (gate_hears (Some w) s)

motion-line : (number : ℕ) (dx dy : ℤ) (s : State) → for_lines (motion number dx dy s) ≡ for_lines s ++ by_route number (route_of s (Motion dx dy))
motion-line number dx dy s = by (moves_by s)
  where
    by : (b : Bool) → for_lines (choose b (move_by number dx dy) (move number dx dy) s) ≡ for_lines s ++ by_route number (Some (if b then One s.active (msg.MoveBy dx dy) else of_cross s (cross s dx dy)))
    by true = route-delivers is_of_line (OfLine number) s.active (msg.MoveBy dx dy) (hear_away s)
    by false = moved-line number (cross s dx dy) (first_way s (moved_point s dx dy)) s

lines-add : Adds is_of_line by_line
lines-add number (Sleep ms) s = none_more is_of_line s s refl
lines-add number (Await screen) s = none_more is_of_line s s refl
lines-add number (KeyDown id button) s = hotkey-line number (press_of s.config.hotkeys) (key_rule s id) s.active (msg.KeyDown id (mask s) button) (holding (KeyDown id button) s)
lines-add number (KeyRepeat count button) s = unless-line number (taking s.taken_keys button) s.active (msg.KeyRepeat (id_at s button) (mask s) count button) s
lines-add number (KeyUp button) s = hotkey-line number (release_of s.config.hotkeys) (taking s.taken_keys button) s.active (msg.KeyUp (id_at s button) (mask s) button) (holding (KeyUp button) s)
lines-add number (ButtonDown b) s = hotkey-line number (press_of s.config.hotkeys) (button_rule s b) s.active (msg.ButtonDown b) (holding (ButtonDown b) s)
lines-add number (ButtonUp b) s = hotkey-line number (release_of s.config.hotkeys) (taking s.taken_buttons b) s.active (msg.ButtonUp b) (holding (ButtonUp b) s)
lines-add number (Motion dx dy) s = motion-line number dx dy s
lines-add number (Wheel dx dy) s = route-delivers is_of_line (OfLine number) s.active (msg.Wheel dx dy) s
lines-add number (Saver on) s = none_more is_of_line s (does number (Saver on) s) (save-keeps (origins.invariant is_of_line refl (for_lines s)) on s refl)
lines-add number (Copy clip bytes) s = none_more is_of_line s (does number (Copy clip bytes) s) (copy-keeps (origins.invariant is_of_line refl (for_lines s)) clip bytes s refl)
lines-add number Quit s = none_more is_of_line s (does number Quit s) (quit-keeps (origins.invariant is_of_line refl (for_lines s)) s refl)

-- ---- for actions

abbrev for_actions : State → List Delivery
for_actions s = deliveries is_of_action s.routed

deliveries-append : (test : Origin → Bool) (base more : List Entry) → deliveries test (base ++ more) ≡ deliveries test base ++ deliveries test more
deliveries-append test [] more = refl
deliveries-append test (e ∷ base) more = front (test e.origin) (deliveries-append test base more)
  where
    front : (b : Bool) → deliveries test (base ++ more) ≡ deliveries test base ++ deliveries test more → map delivery (cond b (e ∷ filter (λ (e : Entry). test e.origin) (base ++ more)) (filter (λ (e : Entry). test e.origin) (base ++ more))) ≡ map delivery (cond b (e ∷ filter (λ (e : Entry). test e.origin) base) (filter (λ (e : Entry). test e.origin) base)) ++ deliveries test more
    front true h = ap (λ ds. delivery e ∷ ds) h
    front false h = h

-- a list of actions adds the entries that stand after those before
acted : (number : ℕ) (list : List Action) (s : State) → for_actions (act_all (OfAction number) list s) ≡ for_actions s ++ deliveries is_of_action (drop (length s.routed) (act_all (OfAction number) list s).routed)
acted number list s =
    let after : State = act_all (OfAction number) list s in
    let h = act_all-keeps (growing.invariant s.routed) (OfAction number) refl list (actions-any list) s ([], sym (append-nil s.routed)) in
    ap (deliveries is_of_action) h.1 ∙ (deliveries-append is_of_action s.routed h.0 ∙ ap (λ es. for_actions s ++ deliveries is_of_action es) (sym (drop-append_seam s.routed h.0) ∙ ap (drop (length s.routed)) (sym h.1)))

hotkey-actions : (number : ℕ) (list : RuleNo → Option (List Action)) (rule : Option RuleNo) (t : Target) (m : Msg) (s : State) → for_actions (go number (to_hotkey list rule (One t m)) s) ≡ for_actions s ++ by_actions number (Some (to_hotkey list rule (One t m))) s
hotkey-actions number list None t m s = none_more is_of_action s (route (OfLine number) t m s) (route-other is_of_action (for_actions s) (OfLine number) t m refl s refl)
hotkey-actions number list (Some rule) t m s = acted number (unwrap_or (list rule) []) s

unless-actions : (number : ℕ) (rule : Option RuleNo) (t : Target) (m : Msg) (s : State) → for_actions (go number (unless_taken rule (One t m)) s) ≡ for_actions s ++ by_actions number (Some (unless_taken rule (One t m))) s
unless-actions number None t m s = none_more is_of_action s (route (OfLine number) t m s) (route-other is_of_action (for_actions s) (OfLine number) t m refl s refl)
unless-actions number (Some rule) t m s = none_more is_of_action s s refl

moved-actions : (number : ℕ) (c : Cross) (o : Option Way) (s : State) → for_actions (moved number c (gate_hears o s)) ≡ for_actions s ++ by_actions number (Some (of_cross s c)) s
moved-actions number (Stay p) None s = none_more is_of_action s (moved number (Stay p) (gate_hears None s)) (route-other is_of_action (for_actions s) (OfLine number) s.active (msg.MoveTo p.x p.y) refl (record (gate_hears None s) { cursor = p }) refl)
moved-actions number (Stay p) (Some w) s = none_more is_of_action s (moved number (Stay p) (gate_hears (Some w) s)) (route-other is_of_action (for_actions s) (OfLine number) s.active (msg.MoveTo p.x p.y) refl (record (gate_hears (Some w) s) { cursor = p }) refl)
moved-actions number (Switch to p) None s = none_more is_of_action s (moved number (Switch to p) (gate_hears None s)) (crossed (gate_hears None s) refl)
  where
    crossed : (u : State) → for_actions u ≡ for_actions s → for_actions (switch (OfLine number) to p u) ≡ for_actions s
    crossed u h = refresh_both-keeps (origins.invariant is_of_action refl (for_actions s)) (tell_entering (OfLine number) to p (tell_leaving u)) (route-other is_of_action (for_actions s) (OfLine number) to (entering p u) refl (at_screen to p (tell_leaving u)) (route-other is_of_action (for_actions s) Own u.active msg.Leave refl u h))
moved-actions number (Switch to p) (Some w) s = none_more is_of_action s (moved number (Switch to p) (gate_hears (Some w) s)) (crossed (gate_hears (Some w) s) refl)
  where
    crossed : (u : State) → for_actions u ≡ for_actions s → for_actions (switch (OfLine number) to p u) ≡ for_actions s
    crossed u h = refresh_both-keeps (origins.invariant is_of_action refl (for_actions s)) (tell_entering (OfLine number) to p (tell_leaving u)) (route-other is_of_action (for_actions s) (OfLine number) to (entering p u) refl (at_screen to p (tell_leaving u)) (route-other is_of_action (for_actions s) Own u.active msg.Leave refl u h))

motion-actions : (number : ℕ) (dx dy : ℤ) (s : State) → for_actions (motion number dx dy s) ≡ for_actions s ++ by_actions number (route_of s (Motion dx dy)) s
motion-actions number dx dy s = by (moves_by s)
  where
    by : (b : Bool) → for_actions (choose b (move_by number dx dy) (move number dx dy) s) ≡ for_actions s ++ by_actions number (Some (if b then One s.active (msg.MoveBy dx dy) else of_cross s (cross s dx dy))) s
    by true = none_more is_of_action s (move_by number dx dy s) (route-other is_of_action (for_actions s) (OfLine number) s.active (msg.MoveBy dx dy) refl (hear_away s) refl)
    by false = moved-actions number (cross s dx dy) (first_way s (moved_point s dx dy)) s

actions-add : Adds is_of_action by_hotkey
actions-add number (Sleep ms) s = none_more is_of_action s s refl
actions-add number (Await screen) s = none_more is_of_action s s refl
actions-add number (KeyDown id button) s = hotkey-actions number (press_of s.config.hotkeys) (key_rule s id) s.active (msg.KeyDown id (mask s) button) (holding (KeyDown id button) s)
actions-add number (KeyRepeat count button) s = unless-actions number (taking s.taken_keys button) s.active (msg.KeyRepeat (id_at s button) (mask s) count button) s
actions-add number (KeyUp button) s = hotkey-actions number (release_of s.config.hotkeys) (taking s.taken_keys button) s.active (msg.KeyUp (id_at s button) (mask s) button) (holding (KeyUp button) s)
actions-add number (ButtonDown b) s = hotkey-actions number (press_of s.config.hotkeys) (button_rule s b) s.active (msg.ButtonDown b) (holding (ButtonDown b) s)
actions-add number (ButtonUp b) s = hotkey-actions number (release_of s.config.hotkeys) (taking s.taken_buttons b) s.active (msg.ButtonUp b) (holding (ButtonUp b) s)
actions-add number (Motion dx dy) s = motion-actions number dx dy s
actions-add number (Wheel dx dy) s = none_more is_of_action s (route (OfLine number) s.active (msg.Wheel dx dy) s) (route-other is_of_action (for_actions s) (OfLine number) s.active (msg.Wheel dx dy) refl s refl)
actions-add number (Saver on) s = none_more is_of_action s (does number (Saver on) s) (save-keeps (origins.invariant is_of_action refl (for_actions s)) on s refl)
actions-add number (Copy clip bytes) s = none_more is_of_action s (does number (Copy clip bytes) s) (copy-keeps (origins.invariant is_of_action refl (for_actions s)) clip bytes s refl)
actions-add number Quit s = none_more is_of_action s (does number Quit s) (quit-keeps (origins.invariant is_of_action refl (for_actions s)) s refl)

-- ---- the law

pub one_for_one : OneForOne
one_for_one config script now hs = record {
  lines = run-adds is_of_line refl by_line lines-add hs (start config script now);
  actions = run-adds is_of_action refl by_hotkey actions-add hs (start config script now);
}
