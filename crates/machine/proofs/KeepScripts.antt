-- Lines of the script and timers keep every invariant.
use Rattle.std.specs.Prelude.{◌≡◌, refl, ℕ, nat_le, Bool, true, false, not, List, [], ◌∷◌, if◌then◌else◌}
use Rattle.std.specs.List.{list_all}
use Rattle.std.proofs.Common.{arith, ap, inr, ◌∙◌}
use Rattle.std.proofs.lemmas.Bool.{and_parts}
use Rattle.message_codec.specs.declared.messages.Msg.TheVariants as msg
use Rattle.option_table.specs.declared.rows.OptionName.TheVariants as option
use Rattle.screen_config.specs.Globals.{flag}
use Rattle.edge_cross.specs.declared.gate.Waiting.{Waiting}
use Rattle.hello_states.specs.declared.part_cause.PartCause.{PartCause}
use Rattle.hello_states.specs.declared.part_cause.PartCause.TheVariants as cause
use Rattle.hello_states.specs.Phases.{Phase, Greeting, Asked, Joined, Parting, is_parting, is_dead_in, is_silent, is_beat_due_in, after_beat_in}
use Rattle.machine.specs.Scripts.{Line, Sleep, Await, KeyDown, KeyRepeat, KeyUp, ButtonDown, ButtonUp, Motion, Wheel, Saver, Copy, Quit}
use Rattle.machine.specs.Targets.{Primary, Client, Own, Origin, OfLine, OfAction}
use Rattle.machine.specs.Connections.{Connection, serials, is_live}
use Rattle.machine.specs.States.{State}
use Rattle.machine.specs.Combining.{when, unchanged}
use Rattle.machine.specs.Screens.{connection, lives, change, joined_clients}
use Rattle.machine.specs.Routing.{route_all}
use Rattle.machine.specs.GateCalls.{waiting, hear_away}
use Rattle.machine.specs.Edges.{Way, way, edge_at_cursor}
use Rattle.machine.specs.Crossing.{Cross, Stay, Switch, through}
use Rattle.machine.specs.Partings.{part}
use Rattle.machine.specs.Slow.{part_slow}
use Rattle.machine.specs.Running.{save, say_bye, quit, does, past, run_line, run_ahead, run_script, may_run}
use Rattle.machine.specs.Timers.{clock, timer, timers, has_died, was_silent, owes_beat, sent_beat, beat, deaths, silences, beats, switch_through, try, gate_timer, after_timers}
use Rattle.machine.specs.KeyButtons.{pressed_by_line}
use Rattle.machine.proofs.Rules.{when-keeps, when-keeps-if, choose-keeps, for_some-keeps, for_each-keeps}
use Rattle.machine.proofs.Live.{IsLive, PartsNone, IsSteady, steady-tame, steady-live, lives-live, found-live, joined-known}
use Rattle.machine.proofs.Invariant.{View, On, IsInvariant}
use Rattle.machine.proofs.KeepClipboards.{route_all-keeps, copy-keeps}
use Rattle.machine.proofs.KeepPartings.{switch-keeps, part-keeps, part_slow-keeps}
use Rattle.machine.proofs.KeepEvents.{through-live, motion-keeps, key_down-keeps, key_repeat-keeps, key_up-keeps, button_down-keeps, button_up-keeps, wheel-keeps}

-- ---- lines

pub save-keeps : {key : ℕ → Bool} {allowed : Origin → Bool} {P : View → Type 0} (i : IsInvariant key allowed P) (on : Bool) (s : State) → On P s → On P (save on s)
save-keeps {P = P} i on s h = when-keeps (On P) (flag s.config.settings option.ScreenSaverSync) (λ t. route_all Own (Primary ∷ joined_clients t) (msg.Saver (if on then 1 else 0)) t) (λ t k. route_all-keeps i Own i.own (Primary ∷ joined_clients t) (msg.Saver (if on then 1 else 0)) refl t (inr tt, joined-known t) k) s h

pub quit-keeps : {key : ℕ → Bool} {allowed : Origin → Bool} {P : View → Type 0} (i : IsInvariant key allowed P) (s : State) → On P s → On P (quit s)
quit-keeps {P = P} i s h = for_each-keeps (On P) (serials s.connections) say_bye (λ serial t k. when-keeps-if (On P) (lives t serial) (part cause.Bye serial) t (λ e. part-keeps i cause.Bye serial t (lives-live serial t e) k) k) (record s { has_quit = true }) h

pub does-keeps : {key : ℕ → Bool} {allowed : Origin → Bool} {P : View → Type 0} (i : IsInvariant key allowed P) (number : ℕ) → allowed (OfLine number) ≡ true → allowed (OfAction number) ≡ true → (l : Line) → pressed_by_line key l ≡ true → (s : State) → On P s → On P (does number l s)
does-keeps i number a b (Sleep ms) k s h = h
does-keeps i number a b (Await screen) k s h = h
does-keeps i number a b (KeyDown id button) k s h = key_down-keeps i number a b id button k s h
does-keeps i number a b (KeyRepeat count button) k s h = key_repeat-keeps i number a count button s h
does-keeps i number a b (KeyUp button) k s h = key_up-keeps i number a b button s h
does-keeps i number a b (ButtonDown n) k s h = button_down-keeps i number a b n s h
does-keeps i number a b (ButtonUp n) k s h = button_up-keeps i number a b n s h
does-keeps i number a b (Motion dx dy) k s h = motion-keeps i number a dx dy s h
does-keeps i number a b (Wheel dx dy) k s h = wheel-keeps i number a dx dy s h
does-keeps i number a b (Saver on) k s h = save-keeps i on s h
does-keeps i number a b (Copy clip bytes) k s h = copy-keeps i clip bytes s h
does-keeps i number a b Quit k s h = quit-keeps i s h

run_ahead-keeps : {key : ℕ → Bool} {allowed : Origin → Bool} {P : View → Type 0} (i : IsInvariant key allowed P) → ((number : ℕ) → allowed (OfLine number) ≡ true) → ((number : ℕ) → allowed (OfAction number) ≡ true) → (lines : List Line) → list_all (pressed_by_line key) lines ≡ true → (s : State) → On P s → On P (run_ahead lines s)
run_ahead-keeps i a b [] k s h = h
run_ahead-keeps {key} {P = P} i a b (l ∷ ahead) k s h =
    let both_pass = and_parts (pressed_by_line key l) (list_all (pressed_by_line key) ahead) k in
    let next : On P (run_line l ahead s) = part_slow-keeps i (does s.ran l (past ahead s)) (does-keeps i s.ran (a s.ran) (b s.ran) l both_pass.0 (past ahead s) (i.ahead ahead both_pass.1 s h)) in
    choose-keeps (On P) (may_run s l) (λ t. run_ahead ahead (run_line l ahead t)) unchanged s (λ e. run_ahead-keeps i a b ahead both_pass.1 (run_line l ahead s) next) (λ e. h)

pub run_script-keeps : {key : ℕ → Bool} {allowed : Origin → Bool} {P : View → Type 0} (i : IsInvariant key allowed P) → ((number : ℕ) → allowed (OfLine number) ≡ true) → ((number : ℕ) → allowed (OfAction number) ≡ true) → (s : State) → On P s → On P (run_script s)
run_script-keeps i a b s h = run_ahead-keeps i a b s.lines (i.script s h) s h

-- ---- timers of connections

timers-keep : {key : ℕ → Bool} {allowed : Origin → Bool} {P : View → Type 0} (i : IsInvariant key allowed P) (has_come : State → Connection → Bool) (rule : ℕ → State → State) → ((s : State) (c : Connection) → has_come s c ≡ true → is_live c ≡ true) → ((serial : ℕ) (s : State) → IsLive s.connections (Client serial) → On P s → On P (rule serial s)) → (s : State) → On P s → On P (timers has_come rule s)
timers-keep {P = P} i has_come rule live k s h = for_each-keeps (On P) (serials s.connections) (timer has_come rule) one s h
  where
    one : (serial : ℕ) (t : State) → On P t → On P (timer has_come rule serial t)
    one serial t g = for_some-keeps (On P) (connection t serial) (λ c. when (has_come t c) (λ u. part_slow (rule serial u))) unchanged t (λ c f. when-keeps-if (On P) (has_come t c) (λ u. part_slow (rule serial u)) t (λ e. part_slow-keeps i (rule serial t) (k serial t (found-live serial t.connections c f (live t c e)) g)) g) g

-- a test of phases that no parting passes
passes_live : (test : Phase → Bool) → ((cause : PartCause) (moment : ℕ) → test (Parting cause moment) ≡ false) → (c : Connection) → test c.phase ≡ true → is_live c ≡ true
passes_live test none c h = by c.phase h
  where
    by : (phase : Phase) → test phase ≡ true → not (is_parting phase) ≡ true
    by (Greeting a) h = refl
    by (Asked a) h = refl
    by (Joined a) h = refl
    by (Parting cause moment) h = let no = none cause moment in grind (arith, h, no)

died_live : (s : State) (c : Connection) → has_died s c ≡ true → is_live c ≡ true
died_live s c h = passes_live (λ phase. is_dead_in phase s.at) (λ cause moment. refl) c h

silent_live : (s : State) (c : Connection) → was_silent s c ≡ true → is_live c ≡ true
silent_live s c h = passes_live (λ phase. is_silent phase s.at) (λ cause moment. refl) c h

beat_live : (s : State) (c : Connection) → owes_beat s c ≡ true → is_live c ≡ true
beat_live s c h = passes_live (λ phase. is_beat_due_in phase s.at) (λ cause moment. refl) c h

beat_parting : (now : ℕ) (phase : Phase) → is_parting (after_beat_in phase now) ≡ is_parting phase
beat_parting now (Greeting a) = refl
beat_parting now (Asked a) = refl
beat_parting now (Joined a) = refl
beat_parting now (Parting a b) = refl

pub beat-steady : (now : ℕ) → IsSteady (sent_beat now)
beat-steady now c = (refl, ap not (beat_parting now c.phase))

beat_phase : (now : ℕ) (phase : Phase) → not (is_parting phase) ≡ false → after_beat_in phase now ≡ phase
beat_phase now (Greeting a) off = cc
beat_phase now (Asked a) off = cc
beat_phase now (Joined a) off = cc
beat_phase now (Parting a b) off = refl

beat-parts : (now : ℕ) → PartsNone (sent_beat now)
beat-parts now c = (refl, λ on. (beat-steady now c).1 ∙ on, beat_phase now c.phase)

beat-keeps : {key : ℕ → Bool} {allowed : Origin → Bool} {P : View → Type 0} (i : IsInvariant key allowed P) (serial : ℕ) (s : State) → IsLive s.connections (Client serial) → On P s → On P (beat serial s)
beat-keeps i serial s on h =
    let f = sent_beat s.at in
    i.plain Own i.own (Client serial) msg.Alive refl (change serial f s) (inr (steady-live serial f (beat-steady s.at) s.connections (Client serial) on)) (i.changed serial f (steady-tame f (beat-steady s.at)) (λ c. refl) (beat-parts s.at) s h)

-- ---- the gate

switch_through-keeps : {key : ℕ → Bool} {allowed : Origin → Bool} {P : View → Type 0} (i : IsInvariant key allowed P) (w : Way) (s : State) → On P s → On P (switch_through (through s w) s)
switch_through-keeps {P = P} i w s h = by (through s w) refl
  where
    by : (c : Cross) → through s w ≡ c → On P (switch_through c s)
    by (Stay p) e = h
    by (Switch to p) e = switch-keeps i Own i.own to p s (through-live s w to p e) h

try-keeps : {key : ℕ → Bool} {allowed : Origin → Bool} {P : View → Type 0} (i : IsInvariant key allowed P) (w : Waiting) (s : State) → On P s → On P (try w s)
try-keeps {P = P} i w s h = for_some-keeps (On P) (way s (edge_at_cursor s w.side)) (λ v t. switch_through (through t v) t) unchanged (hear_away s) (λ v e. switch_through-keeps i v (hear_away s) h) h

gate_timer-keeps : {key : ℕ → Bool} {allowed : Origin → Bool} {P : View → Type 0} (i : IsInvariant key allowed P) (s : State) → On P s → On P (gate_timer s)
gate_timer-keeps {P = P} i s h = for_some-keeps (On P) (waiting s) (λ w. when (nat_le w.due s.at) (λ t. part_slow (try w t))) unchanged s (λ w e. when-keeps-if (On P) (nat_le w.due s.at) (λ t. part_slow (try w t)) s (λ f. part_slow-keeps i (try w s) (try-keeps i w s h)) h) h

-- ---- all of them

pub after_timers-keeps : {key : ℕ → Bool} {allowed : Origin → Bool} {P : View → Type 0} (i : IsInvariant key allowed P) (t : ℕ) (s : State) → On P s → On P (after_timers t s)
after_timers-keeps i t s h =
    let a = timers-keep i has_died (part cause.Dead) died_live (part-keeps i cause.Dead) (clock t s) h in
    let b = timers-keep i was_silent (part cause.Silent) silent_live (part-keeps i cause.Silent) (deaths (clock t s)) a in
    let c = timers-keep i owes_beat beat beat_live (beat-keeps i) (silences (deaths (clock t s))) b in
    gate_timer-keeps i (beats (silences (deaths (clock t s)))) c
