-- What the rules of a line, of a parting and of a switch leave alone: whatever their steps keep.
use Rattle.std.specs.Prelude.{◌≡◌, refl, ℕ, ◌+◌, ℤ, Bool, true, false, not, ◌&&◌, ◌==◌, List, [], ◌∷◌, length, map, filter, Option, Some, None, if◌then◌else◌}
use Rattle.std.proofs.Common.{ap, ◌∙◌}
use Rattle.share_base.specs.declared.clip_id.ClipId.{ClipId}
use Rattle.share_base.specs.declared.clip_id.ClipId.TheVariants.{Clipboard, Selection}
use Rattle.share_base.specs.declared.shape.Side.{Side}
use Rattle.share_base.specs.declared.numbers.RuleNo.{RuleNo}
use Rattle.message_codec.specs.declared.messages.Msg.{Msg}
use Rattle.message_codec.specs.declared.messages.Msg.TheVariants as msg
use Rattle.modifier_map.specs.Presses as presses
use Rattle.edge_cross.specs.Gates as gates
use Rattle.held_inputs.specs.declared.line.Line.TheVariants as line
use Rattle.option_table.specs.declared.rows.OptionName.TheVariants as option
use Rattle.hotkey_rules.specs.declared.action.Action.{Action}
use Rattle.hotkey_rules.specs.declared.action.Action.TheVariants as action
use Rattle.screen_config.specs.Globals.{flag}
use Rattle.hello_states.specs.declared.part_cause.PartCause.{PartCause}
use Rattle.hello_states.specs.declared.part_cause.PartCause.TheVariants as cause
use Rattle.hello_states.specs.Causes.{farewell}
use Rattle.clip_chunks.specs.Clips.{Clips, with_clip}
use Rattle.clip_chunks.specs.Parts.{message_of}
use Rattle.clip_chunks.specs.Sending.{parts_of}
use Rattle.clip_chunks.specs.Rules as rules
use Rattle.machine.specs.Scripts.{Line, Sleep, Await, KeyDown, KeyRepeat, KeyUp, ButtonDown, ButtonUp, Motion, Wheel, Saver, Copy, Quit}
use Rattle.machine.specs.Targets.{Target, Primary, Client, Origin, OfLine, OfAction, Own, same_target}
use Rattle.machine.specs.Connections.{Connection, serials}
use Rattle.machine.specs.States.{State, Point, LogLine, Local, Part}
use Rattle.machine.specs.Combining.{when, for_some, unchanged}
use Rattle.machine.specs.Screens.{screen_of, shape_of, target_of, middle, change, joined_screens, joined_clients, lives}
use Rattle.machine.specs.Routing.{route, route_all, logs}
use Rattle.machine.specs.Clipboards.{clip, set_clip, clip_limit, is_sharing, give, refresh, refresh_both, publish, copy}
use Rattle.machine.specs.Edges.{Way, landing, edge_at_cursor, first_way}
use Rattle.machine.specs.Crossing.{Cross, Stay, Switch, cross, entry_point, moved_point}
use Rattle.machine.specs.Switching.{entering, at_screen, tell_entering, tell_leaving, switch, fall_back}
use Rattle.machine.specs.Partings.{lose, say_farewell, parted, marked, screen_joined, part}
use Rattle.machine.specs.Slow.{first_slow, part_first_slow, part_slow}
use Rattle.machine.specs.Actions.{may_switch, switch_to, enter_landing, switch_toward, locked_by, act}
use Rattle.machine.specs.GateCalls.{hear_away, before_ask}
use Rattle.machine.specs.Routes.{Route, Hotkey, Nothing, One, route_of, key_rule, button_rule, moves_by}
use Rattle.machine.specs.Events.{taken_too, released, holding, go, go_if, gate_hears, moved, move, move_by, motion}
use Rattle.machine.specs.Running.{say_bye, quit, does}
use Rattle.machine.proofs.Rules.{when-keeps, choose-keeps, for_some-keeps, for_each-keeps, times-keeps}

-- each step keeps it
pub record IsSteady (Q : State → Type 0) : Type 0 where
  pub routed : (o : Origin) (t : Target) (m : Msg) (s : State) → Q s → Q (route o t m s)
  pub logged : (lines : List LogLine) (s : State) → Q s → Q (logs lines s)
  pub clips : (clips : Clips) (s : State) → Q s → Q (record s { clips = clips })
  pub moved : (to : Target) (p : Point) (s : State) → Q s → Q (at_screen to p s)
  pub changed : (serial : ℕ) (f : Connection → Connection) → ((c : Connection) → (f c).serial ≡ c.serial) → (s : State) → Q s → Q (change serial f s)
  pub pressed : (keys : List presses.Call) (buttons : List ℕ) (taken_keys taken_buttons : List (ℕ × RuleNo)) (s : State) → Q s → Q (record s { presses = keys; buttons = buttons; taken_keys = taken_keys; taken_buttons = taken_buttons })
  pub heard : (calls : List gates.Call) (s : State) → Q s → Q (record s { gate_calls = calls })
  pub put : (p : Point) (s : State) → Q s → Q (record s { cursor = p })
  pub locked : (is : Bool) (s : State) → Q s → Q (record s { is_locked = is })
  pub slept : (end : Option ℕ) (s : State) → Q s → Q (record s { sleeps_until = end })
  pub quit : (is : Bool) (s : State) → Q s → Q (record s { has_quit = is })

-- ---- clipboards

route_all-steady : {Q : State → Type 0} → IsSteady Q → (o : Origin) (ts : List Target) (m : Msg) (s : State) → Q s → Q (route_all o ts m s)
route_all-steady {Q} i o ts m s h = for_each-keeps Q ts (λ t. route o t m) (λ t u k. i.routed o t m u k) s h

give-steady : {Q : State → Type 0} → IsSteady Q → (id : ClipId) (bytes : List ℕ) (t : Target) (s : State) → Q s → Q (give id bytes t s)
give-steady i id bytes Primary s h = i.logged (Local (line.Clip id bytes) ∷ []) s h
give-steady {Q} i id bytes (Client n) s h = for_each-keeps Q (map message_of (parts_of id 0 bytes)) (route Own (Client n)) (λ m u k. i.routed Own (Client n) m u k) s h

refresh-steady : {Q : State → Type 0} → IsSteady Q → (id : ClipId) (s : State) → Q s → Q (refresh id s)
refresh-steady {Q} i id s h = for_some-keeps Q (rules.given (screen_of s s.active) (clip s id)) (λ bytes t. give id bytes t.active (set_clip id (rules.entered (screen_of t t.active) (clip t id)) t)) unchanged s (λ bytes e. give-steady i id bytes s.active (set_clip id (rules.entered (screen_of s s.active) (clip s id)) s) (i.clips (with_clip id (rules.entered (screen_of s s.active) (clip s id)) s.clips) s h)) h

refresh_both-steady : {Q : State → Type 0} → IsSteady Q → (s : State) → Q s → Q (refresh_both s)
refresh_both-steady i s h = refresh-steady i Selection (refresh Clipboard s) (refresh-steady i Clipboard s h)

publish-steady : {Q : State → Type 0} → IsSteady Q → (id : ClipId) (bytes : List ℕ) (s : State) → Q s → Q (publish id bytes s)
publish-steady i id bytes s h =
    let told : State = route_all Own (joined_clients s) (msg.Grab id 0) s in
    refresh-steady i id (set_clip id (rules.known s.primary s.sequence bytes (joined_screens told)) told) (i.clips (with_clip id (rules.known s.primary s.sequence bytes (joined_screens told)) told.clips) told (route_all-steady i Own (joined_clients s) (msg.Grab id 0) s h))

copy-steady : {Q : State → Type 0} → IsSteady Q → (id : ClipId) (bytes : List ℕ) (s : State) → Q s → Q (copy id bytes s)
copy-steady {Q} i id bytes s h = when-keeps Q (is_sharing s && rules.copy_counts (clip_limit s) bytes) (publish id bytes) (publish-steady i id bytes) s h

-- ---- switches and partings

switch-steady : {Q : State → Type 0} → IsSteady Q → (o : Origin) (to : Target) (p : Point) (s : State) → Q s → Q (switch o to p s)
switch-steady i o to p s h =
    let left : State = tell_leaving s in
    refresh_both-steady i (tell_entering o to p left) (i.routed o to (entering p left) (at_screen to p left) (i.moved to p left (i.routed Own s.active msg.Leave s h)))

fall_back-steady : {Q : State → Type 0} → IsSteady Q → (s : State) → Q s → Q (fall_back s)
fall_back-steady i s h =
    let p : Point = middle s.primary_shape in
    refresh_both-steady i (tell_entering Own Primary p s) (i.routed Own Primary (entering p s) (at_screen Primary p s) (i.moved Primary p s h))

lose-steady : {Q : State → Type 0} → IsSteady Q → (serial screen : ℕ) (s : State) → Q s → Q (lose serial screen s)
lose-steady {Q} i serial screen s h =
    let t : State = when (same_target s.active (Client serial)) fall_back s in
    i.clips (record { clipboard = rules.left t.primary screen t.clips.clipboard; selection = rules.left t.primary screen t.clips.selection }) t (when-keeps Q (same_target s.active (Client serial)) fall_back (fall_back-steady i) s h)

pub part-steady : {Q : State → Type 0} → IsSteady Q → (why : PartCause) (serial : ℕ) (s : State) → Q s → Q (part why serial s)
part-steady {Q} i why serial s h =
    let t : State = say_farewell why serial s in
    let told : Q t = for_some-keeps Q (farewell why) (route Own (Client serial)) unchanged s (λ m e. i.routed Own (Client serial) m s h) h in
    let after : Q (marked why serial t) = i.logged (Part serial why ∷ []) (change serial (parted why t.at) t) (i.changed serial (parted why t.at) (λ c. refl) t told) in
    for_some-keeps Q (screen_joined s serial) (lose serial) unchanged (marked why serial t) (λ screen e. lose-steady i serial screen (marked why serial t) after) after

pub part_slow-steady : {Q : State → Type 0} → IsSteady Q → (s : State) → Q s → Q (part_slow s)
part_slow-steady {Q} i s h = times-keeps Q (length s.connections) part_first_slow (λ t k. for_some-keeps Q (first_slow t) (λ c. part cause.Slow c.serial) unchanged t (λ c e. part-steady i cause.Slow c.serial t k) k) s h

pub say_bye-steady : {Q : State → Type 0} → IsSteady Q → (serial : ℕ) (s : State) → Q s → Q (say_bye serial s)
say_bye-steady {Q} i serial s h = when-keeps Q (lives s serial) (part cause.Bye serial) (part-steady i cause.Bye serial) s h

quit-steady : {Q : State → Type 0} → IsSteady Q → (s : State) → Q s → Q (quit s)
quit-steady {Q} i s h = for_each-keeps Q (serials s.connections) say_bye (say_bye-steady i) (record s { has_quit = true }) (i.quit true s h)

-- ---- actions

switch_to-steady : {Q : State → Type 0} → IsSteady Q → (o : Origin) (t : Target) (s : State) → Q s → Q (switch_to o t s)
switch_to-steady {Q} i o t s h = when-keeps Q (may_switch s && not (same_target t s.active)) (switch o t (middle (shape_of s t))) (switch-steady i o t (middle (shape_of s t))) s h

switch_toward-steady : {Q : State → Type 0} → IsSteady Q → (o : Origin) (side : Side) (s : State) → Q s → Q (switch_toward o side s)
switch_toward-steady {Q} i o side s h = when-keeps Q (may_switch s) (for_some (landing s (edge_at_cursor s side)) (enter_landing o side) unchanged) (λ u k. for_some-keeps Q (landing s (edge_at_cursor s side)) (enter_landing o side) unchanged u (λ l e. for_some-keeps Q (target_of u l.screen.0) (λ t. switch o t (entry_point side (shape_of u t) l.t)) unchanged u (λ t f. switch-steady i o t (entry_point side (shape_of u t) l.t) u k) k) k) s h

act-steady : {Q : State → Type 0} → IsSteady Q → (o : Origin) (x : Action) (s : State) → Q s → Q (act o x s)
act-steady i o (action.KeyStroke id mods button) s h = i.routed o s.active (msg.KeyUp id.0 mods.0 button.0) (route o s.active (msg.KeyDown id.0 mods.0 button.0) s) (i.routed o s.active (msg.KeyDown id.0 mods.0 button.0) s h)
act-steady i o (action.KeyPress id mods button) s h = i.routed o s.active (msg.KeyDown id.0 mods.0 button.0) s h
act-steady i o (action.KeyRelease id mods button) s h = i.routed o s.active (msg.KeyUp id.0 mods.0 button.0) s h
act-steady i o (action.MouseClick mods b) s h = i.routed o s.active (msg.ButtonUp b.0) (route o s.active (msg.ButtonDown b.0) s) (i.routed o s.active (msg.ButtonDown b.0) s h)
act-steady i o (action.MousePress mods b) s h = i.routed o s.active (msg.ButtonDown b.0) s h
act-steady i o (action.MouseRelease mods b) s h = i.routed o s.active (msg.ButtonUp b.0) s h
act-steady i o (action.Lock mode) s h = i.locked (locked_by mode s.is_locked) s h
act-steady {Q} i o (action.SwitchTo screen) s h = for_some-keeps Q (target_of s screen.0) (switch_to o) unchanged s (λ t e. switch_to-steady i o t s h) h
act-steady i o (action.SwitchToward side) s h = switch_toward-steady i o side s h

-- ---- events

go-steady : {Q : State → Type 0} → IsSteady Q → (number : ℕ) (r : Route) (s : State) → Q s → Q (go number r s)
go-steady {Q} i number (Hotkey list) s h = for_each-keeps Q list (act (OfAction number)) (act-steady i (OfAction number)) s h
go-steady i number Nothing s h = h
go-steady i number (One t m) s h = i.routed (OfLine number) t m s h

go_if-steady : {Q : State → Type 0} → IsSteady Q → (number : ℕ) (r : Option Route) (s : State) → Q s → Q (go_if number r s)
go_if-steady i number None s h = h
go_if-steady i number (Some r) s h = go-steady i number r s h

hears-steady : {Q : State → Type 0} → IsSteady Q → (o : Option Way) (s : State) → Q s → Q (gate_hears o s)
hears-steady i None s h = i.heard (gates.Away ∷ s.gate_calls) s h
hears-steady i (Some w) s h = i.heard (gates.asked s.at w.side ∷ before_ask s w.side) s h

moved-steady : {Q : State → Type 0} → IsSteady Q → (number : ℕ) (c : Cross) (s : State) → Q s → Q (moved number c s)
moved-steady i number (Stay p) s h = i.routed (OfLine number) s.active (msg.MoveTo p.x p.y) (record s { cursor = p }) (i.put p s h)
moved-steady i number (Switch to p) s h = switch-steady i (OfLine number) to p s h

motion-steady : {Q : State → Type 0} → IsSteady Q → (number : ℕ) (dx dy : ℤ) (s : State) → Q s → Q (motion number dx dy s)
motion-steady {Q} i number dx dy s h = choose-keeps Q (moves_by s) (move_by number dx dy) (move number dx dy) s (λ e. i.routed (OfLine number) s.active (msg.MoveBy dx dy) (hear_away s) (i.heard (gates.Away ∷ s.gate_calls) s h)) (λ e. moved-steady i number (cross s dx dy) (gate_hears (first_way s (moved_point s dx dy)) s) (hears-steady i (first_way s (moved_point s dx dy)) s h))

pub does-steady : {Q : State → Type 0} → IsSteady Q → (number : ℕ) (l : Line) (s : State) → Q s → Q (does number l s)
does-steady i number (Sleep ms) s h = i.slept (Some (s.at + ms)) s h
does-steady i number (Await screen) s h = h
does-steady i number (KeyDown id button) s h = go_if-steady i number (route_of s (KeyDown id button)) (holding (KeyDown id button) s) (i.pressed (presses.Press id button ∷ s.presses) s.buttons (taken_too (key_rule s id) button s.taken_keys) s.taken_buttons s h)
does-steady i number (KeyRepeat count button) s h = go_if-steady i number (route_of s (KeyRepeat count button)) s h
does-steady i number (KeyUp button) s h = go_if-steady i number (route_of s (KeyUp button)) (holding (KeyUp button) s) (i.pressed (presses.Release button ∷ s.presses) s.buttons (released button s.taken_keys) s.taken_buttons s h)
does-steady i number (ButtonDown b) s h = go_if-steady i number (route_of s (ButtonDown b)) (holding (ButtonDown b) s) (i.pressed s.presses (b ∷ s.buttons) s.taken_keys (taken_too (button_rule s b) b s.taken_buttons) s h)
does-steady i number (ButtonUp b) s h = go_if-steady i number (route_of s (ButtonUp b)) (holding (ButtonUp b) s) (i.pressed s.presses (filter (λ n. not (n == b)) s.buttons) s.taken_keys (released b s.taken_buttons) s h)
does-steady i number (Motion dx dy) s h = motion-steady i number dx dy s h
does-steady i number (Wheel dx dy) s h = go_if-steady i number (route_of s (Wheel dx dy)) s h
does-steady {Q} i number (Saver on) s h = when-keeps Q (flag s.config.settings option.ScreenSaverSync) (λ t. route_all Own (Primary ∷ joined_clients t) (msg.Saver (if on then 1 else 0)) t) (λ t k. route_all-steady i Own (Primary ∷ joined_clients t) (msg.Saver (if on then 1 else 0)) t k) s h
does-steady i number (Copy id bytes) s h = copy-steady i id bytes s h
does-steady i number Quit s h = quit-steady i s h

-- ---- what is kept

-- the lines that are ahead
abbrev pub HasAhead : List Line → State → Type 0
HasAhead ahead s = s.lines ≡ ahead

pub steady-lines : (ahead : List Line) → IsSteady (HasAhead ahead)
steady-lines ahead = record {
  routed = λ o t m s h. h;
  logged = λ lines s h. h;
  clips = λ clips s h. h;
  moved = λ to p s h. h;
  changed = λ serial f same s h. h;
  pressed = λ a b c d s h. h;
  heard = λ calls s h. h;
  put = λ p s h. h;
  locked = λ is s h. h;
  slept = λ end s h. h;
  quit = λ is s h. h;
}

-- the serials of the connections
abbrev pub HasSerials : List ℕ → State → Type 0
HasSerials ns s = serials s.connections ≡ ns

changed_serials : (serial : ℕ) (f : Connection → Connection) → ((c : Connection) → (f c).serial ≡ c.serial) → (cs : List Connection) → serials (map (λ c. when (c.serial == serial) f c) cs) ≡ serials cs
changed_serials serial f same [] = refl
changed_serials serial f same (c ∷ cs) = by (c.serial == serial) (changed_serials serial f same cs)
  where
    by : (b : Bool) → serials (map (λ d. when (d.serial == serial) f d) cs) ≡ serials cs → (when b f c).serial ∷ serials (map (λ d. when (d.serial == serial) f d) cs) ≡ c.serial ∷ serials cs
    by true rest = ap (λ n. n ∷ serials (map (λ d. when (d.serial == serial) f d) cs)) (same c) ∙ ap (λ ns. c.serial ∷ ns) rest
    by false rest = ap (λ ns. c.serial ∷ ns) rest

pub steady-serials : (ns : List ℕ) → IsSteady (HasSerials ns)
steady-serials ns = record {
  routed = λ o t m s h. h;
  logged = λ lines s h. h;
  clips = λ clips s h. h;
  moved = λ to p s h. h;
  changed = λ serial f same s h. changed_serials serial f same s.connections ∙ h;
  pressed = λ a b c d s h. h;
  heard = λ calls s h. h;
  put = λ p s h. h;
  locked = λ is s h. h;
  slept = λ end s h. h;
  quit = λ is s h. h;
}
