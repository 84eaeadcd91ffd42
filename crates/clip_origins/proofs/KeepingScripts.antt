-- What lines of the script and timers keep.
use Rattle.std.specs.Prelude.{◌≡◌, refl, ℕ, ◌&&◌, nat_le, Bool, true, false, not, List, [], ◌∷◌, if◌then◌else◌}
use Rattle.std.specs.List.{AllByRecursion}
use Rattle.std.proofs.Common.{ap, sym, ◌∙◌}
use Rattle.share_base.specs.declared.clip_id.ClipId.{ClipId}
use Rattle.message_codec.specs.declared.messages.Msg.TheVariants as msg
use Rattle.option_table.specs.declared.rows.OptionName.TheVariants as option
use Rattle.screen_config.specs.Globals.{flag}
use Rattle.edge_cross.specs.declared.gate.Waiting.{Waiting}
use Rattle.hello_states.specs.Phases.{Phase, Greeting, Asked, Joined, Parting, is_parting, after_beat_in}
use Rattle.hello_states.specs.declared.part_cause.PartCause.TheVariants as cause
use Rattle.machine.specs.Scripts.{Line, Sleep, Await, KeyDown, KeyRepeat, KeyUp, ButtonDown, ButtonUp, Motion, Wheel, Saver, Copy, Quit}
use Rattle.machine.specs.Targets.{Primary, Own}
use Rattle.machine.specs.Connections.{Connection, serials}
use Rattle.machine.specs.States.{State}
use Rattle.machine.specs.Combining.{when, choose, unchanged}
use Rattle.machine.specs.Screens.{connection, lives, joined_clients}
use Rattle.machine.specs.Routing.{route_all}
use Rattle.machine.specs.Clipboards.{is_sharing, clip_limit}
use Rattle.clip_chunks.specs.Rules.{copy_counts}
use Rattle.machine.specs.GateCalls.{waiting, hear_away}
use Rattle.machine.specs.Edges.{way, edge_at_cursor}
use Rattle.machine.specs.Crossing.{Cross, Stay, Switch, through}
use Rattle.machine.specs.Partings.{part}
use Rattle.machine.specs.Slow.{part_slow}
use Rattle.machine.specs.Running.{save, say_bye, quit, does, past, run_line, run_ahead, run_script, may_run}
use Rattle.machine.specs.Timers.{clock, timer, timers, has_died, was_silent, owes_beat, sent_beat, beat, deaths, silences, beats, switch_through, try, gate_timer, after_timers}
use Rattle.machine.specs.OneForOne.{RunLine, lines_ran, lines_run_now}
use Rattle.machine.proofs.Rules.{when-keeps-if, for_some-keeps, for_each-keeps}
use Rattle.clip_origins.proofs.Keeping.{is_early, IsQuiet, Clipped, On, IsKept, Knows, route_all-keeps, copy-keeps}
use Rattle.clip_origins.proofs.KeepingPartings.{switch-keeps, part-keeps, part_slow-keeps}
use Rattle.clip_origins.proofs.KeepingEvents.{event-keeps, motion-keeps}

-- ---- lines

save-keeps : (P : Clipped) (on : Bool) (s : State) → On P s → On P (save on s)
save-keeps P on s h = when-keeps-if (On P) (flag s.config.settings option.ScreenSaverSync) (λ t. route_all Own (Primary ∷ joined_clients t) (msg.Saver (if on then 1 else 0)) t) s (λ e. route_all-keeps P Own (Primary ∷ joined_clients s) (msg.Saver (if on then 1 else 0)) s h) h

quit-keeps : {P : Clipped} (i : IsKept P) (s : State) → On P s → On P (quit s)
quit-keeps {P} i s h = for_each-keeps (On P) (serials s.connections) say_bye (λ serial t g. when-keeps-if (On P) (lives t serial) (part cause.Bye serial) t (λ e. part-keeps i cause.Bye serial t g) g) (record s { has_quit = true }) h

-- what a line that copies makes known keeps it
abbrev pub Copies : Clipped → RunLine → Type 0
Copies P r = (id : ClipId) (bytes : List ℕ) → r.line ≡ Copy id bytes → (is_sharing r.state && copy_counts (clip_limit r.state) bytes) ≡ true → Knows P id r.state.primary r.state.sequence bytes

does-keeps : {P : Clipped} (i : IsKept P) (number : ℕ) (l : Line) (s : State) → ((id : ClipId) (bytes : List ℕ) → l ≡ Copy id bytes → (is_sharing s && copy_counts (clip_limit s) bytes) ≡ true → Knows P id s.primary s.sequence bytes) → On P s → On P (does number l s)
does-keeps i number (Sleep ms) s k h = h
does-keeps i number (Await screen) s k h = h
does-keeps i number (KeyDown id button) s k h = event-keeps i number (KeyDown id button) s h
does-keeps i number (KeyRepeat count button) s k h = event-keeps i number (KeyRepeat count button) s h
does-keeps i number (KeyUp button) s k h = event-keeps i number (KeyUp button) s h
does-keeps i number (ButtonDown b) s k h = event-keeps i number (ButtonDown b) s h
does-keeps i number (ButtonUp b) s k h = event-keeps i number (ButtonUp b) s h
does-keeps i number (Motion dx dy) s k h = motion-keeps i number dx dy s h
does-keeps i number (Wheel dx dy) s k h = event-keeps i number (Wheel dx dy) s h
does-keeps {P} i number (Saver on) s k h = save-keeps P on s h
does-keeps i number (Copy clip bytes) s k h = copy-keeps i clip bytes s (k clip bytes refl) h
does-keeps i number Quit s k h = quit-keeps i s h

run_ahead-keeps : {P : Clipped} (i : IsKept P) (lines : List Line) (s : State) → AllByRecursion (Copies P) (lines_ran lines s) → On P s → On P (run_ahead lines s)
run_ahead-keeps i [] s all h = h
run_ahead-keeps {P} i (l ∷ ahead) s all h = by (may_run s l) all (λ rest g. run_ahead-keeps i ahead (run_line l ahead s) rest g)
  where
    by : (b : Bool) → AllByRecursion (Copies P) (if b then (record { number = s.ran; line = l; state = past ahead s }) ∷ lines_ran ahead (run_line l ahead s) else [])
        → (AllByRecursion (Copies P) (lines_ran ahead (run_line l ahead s)) → On P (run_line l ahead s) → On P (run_ahead ahead (run_line l ahead s)))
        → On P (choose b (λ t. run_ahead ahead (run_line l ahead t)) unchanged s)
    by true all later = later all.1 (part_slow-keeps i (does s.ran l (past ahead s)) (does-keeps i s.ran l (past ahead s) all.0 h))
    by false all later = h

pub run_script-keeps : {P : Clipped} (i : IsKept P) (s : State) → AllByRecursion (Copies P) (lines_run_now s) → On P s → On P (run_script s)
run_script-keeps i s all h = run_ahead-keeps i s.lines s all h

-- ---- timers of connections

timers-keep : {P : Clipped} (i : IsKept P) (has_come : State → Connection → Bool) (rule : ℕ → State → State) → ((serial : ℕ) (s : State) → On P s → On P (rule serial s)) → (s : State) → On P s → On P (timers has_come rule s)
timers-keep {P} i has_come rule goes s h = for_each-keeps (On P) (serials s.connections) (timer has_come rule) one s h
  where
    one : (serial : ℕ) (t : State) → On P t → On P (timer has_come rule serial t)
    one serial t g = for_some-keeps (On P) (connection t serial) (λ c. when (has_come t c) (λ u. part_slow (rule serial u))) unchanged t (λ c f. when-keeps-if (On P) (has_come t c) (λ u. part_slow (rule serial u)) t (λ e. part_slow-keeps i (rule serial t) (goes serial t g)) g) g

beat-early : (now : ℕ) (p : Phase) → is_early (after_beat_in p now) ≡ true → is_early p ≡ true
beat-early now (Greeting a) e = refl
beat-early now (Asked a) e = refl
beat-early now (Joined j) e = e
beat-early now (Parting a b) e = e

beat-live : (now : ℕ) (p : Phase) → is_parting (after_beat_in p now) ≡ is_parting p
beat-live now (Greeting a) = refl
beat-live now (Asked a) = refl
beat-live now (Joined j) = refl
beat-live now (Parting a b) = refl

beat-quiet : (now : ℕ) (c : Connection) → IsQuiet c (sent_beat now c)
beat-quiet now c = record { received = refl; parts = refl; live = λ e. live-as c.phase e; early = beat-early now c.phase }
  where
    live-as : (p : Phase) → not (is_parting (after_beat_in p now)) ≡ true → not (is_parting p) ≡ true
    live-as p e = ap not (sym (beat-live now p)) ∙ e

beat-keeps : {P : Clipped} (i : IsKept P) (serial : ℕ) (s : State) → On P s → On P (beat serial s)
beat-keeps i serial s h = i.changed serial (sent_beat s.at) s.clips s.connections (λ c. refl) (λ c e. beat-quiet s.at c) h

-- ---- the gate

switch_through-keeps : {P : Clipped} (i : IsKept P) (c : Cross) (s : State) → On P s → On P (switch_through c s)
switch_through-keeps i (Stay p) s h = h
switch_through-keeps i (Switch to p) s h = switch-keeps i Own to p s h

try-keeps : {P : Clipped} (i : IsKept P) (w : Waiting) (s : State) → On P s → On P (try w s)
try-keeps {P} i w s h = for_some-keeps (On P) (way s (edge_at_cursor s w.side)) (λ v t. switch_through (through t v) t) unchanged (hear_away s) (λ v f. switch_through-keeps i (through (hear_away s) v) (hear_away s) h) h

gate_timer-keeps : {P : Clipped} (i : IsKept P) (s : State) → On P s → On P (gate_timer s)
gate_timer-keeps {P} i s h = for_some-keeps (On P) (waiting s) (λ w. when (nat_le w.due s.at) (λ t. part_slow (try w t))) unchanged s (λ w e. when-keeps-if (On P) (nat_le w.due s.at) (λ t. part_slow (try w t)) s (λ f. part_slow-keeps i (try w s) (try-keeps i w s h)) h) h

-- ---- all of them

pub after_timers-keeps : {P : Clipped} (i : IsKept P) (t : ℕ) (s : State) → On P s → On P (after_timers t s)
after_timers-keeps i t s h =
    let a = timers-keep i has_died (part cause.Dead) (part-keeps i cause.Dead) (clock t s) h in
    let b = timers-keep i was_silent (part cause.Silent) (part-keeps i cause.Silent) (deaths (clock t s)) a in
    let c = timers-keep i owes_beat beat (beat-keeps i) (silences (deaths (clock t s))) b in
    gate_timer-keeps i (beats (silences (deaths (clock t s)))) c
