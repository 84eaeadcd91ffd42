-- What lines of the script and timers do, told by the steps that rules are made of.
use Rattle.std.specs.Prelude.{refl, ℕ, nat_le, Bool, true, List, [], ◌∷◌, if◌then◌else◌}
use Rattle.std.specs.List.{AllByRecursion}
use Rattle.message_codec.specs.declared.messages.Msg.TheVariants as msg
use Rattle.option_table.specs.declared.rows.OptionName.TheVariants as option
use Rattle.screen_config.specs.Globals.{flag}
use Rattle.edge_cross.specs.declared.edge.Edge.{Edge}
use Rattle.edge_cross.specs.declared.gate.Waiting.{Waiting}
use Rattle.hello_states.specs.declared.part_cause.PartCause.TheVariants as cause
use Rattle.machine.specs.Scripts.{Line, Sleep, Await, KeyDown, KeyRepeat, KeyUp, ButtonDown, ButtonUp, Motion, Wheel, Saver, Copy, Quit}
use Rattle.machine.specs.Targets.{Primary, Client, Own}
use Rattle.machine.specs.Connections.{Connection, serials}
use Rattle.machine.specs.States.{State}
use Rattle.machine.specs.Combining.{when, unchanged}
use Rattle.machine.specs.Screens.{connection, lives, change, joined_clients}
use Rattle.machine.specs.Routing.{route_all}
use Rattle.machine.specs.GateCalls.{waiting, hear_away}
use Rattle.machine.specs.Edges.{way, edge_at_cursor}
use Rattle.machine.specs.Crossing.{Cross, Stay, Switch, through}
use Rattle.machine.specs.Partings.{part}
use Rattle.machine.specs.Slow.{part_slow}
use Rattle.machine.specs.Running.{save, say_bye, quit, does, past, run_line, run_ahead, run_script, may_run}
use Rattle.machine.specs.Timers.{clock, timer, timers, has_died, was_silent, owes_beat, sent_beat, beat, deaths, silences, beats, switch_through, try, gate_timer, after_timers}
use Rattle.machine.proofs.Rules.{when-keeps-if, choose-keeps, for_some-keeps, for_each-keeps}
use Rattle.both_ends.proofs.Telling.{Kinds, IsTelling}
use Rattle.both_ends.proofs.TellingClipboards.{route_all-tells, copy-tells}
use Rattle.both_ends.proofs.TellingPartings.{switch-tells, part-tells, part_slow-tells}
use Rattle.both_ends.proofs.TellingEvents.{IsAt, through-at, way-place, motion-tells, key_down-tells, key_repeat-tells, key_up-tells, button_down-tells, button_up-tells, wheel-tells}

-- ---- lines

save-tells : {k : Kinds} (i : IsTelling k) (on : Bool) (s : State) → k.state s → k.state (save on s)
save-tells {k} i on s h = when-keeps-if k.state (flag s.config.settings option.ScreenSaverSync) (λ t. route_all Own (Primary ∷ joined_clients t) (msg.Saver (if on then 1 else 0)) t) s (λ e. route_all-tells i Own (Primary ∷ joined_clients s) (msg.Saver (if on then 1 else 0)) (i.saver on) s h) h

quit-tells : {k : Kinds} (i : IsTelling k) (s : State) → k.state s → k.state (quit s)
quit-tells {k} i s h = for_each-keeps k.state (serials s.connections) say_bye (λ serial t g. when-keeps-if k.state (lives t serial) (part cause.Bye serial) t (λ e. part-tells i cause.Bye serial t g) g) (record s { has_quit = true }) (i.quits s h)

does-tells : {k : Kinds} (i : IsTelling k) (number : ℕ) (l : Line) (s : State) → k.line l → k.state s → k.state (does number l s)
does-tells i number (Sleep ms) s l h = i.sleeps _ s h
does-tells i number (Await screen) s l h = h
does-tells i number (KeyDown id button) s l h = key_down-tells i number id button s l h
does-tells i number (KeyRepeat count button) s l h = key_repeat-tells i number count button s l h
does-tells i number (KeyUp button) s l h = key_up-tells i number button s l h
does-tells i number (ButtonDown b) s l h = button_down-tells i number b s l h
does-tells i number (ButtonUp b) s l h = button_up-tells i number b s l h
does-tells i number (Motion dx dy) s l h = motion-tells i number dx dy s l h
does-tells i number (Wheel dx dy) s l h = wheel-tells i number dx dy s l h
does-tells i number (Saver on) s l h = save-tells i on s h
does-tells i number (Copy clip bytes) s l h = copy-tells i clip bytes s l h
does-tells i number Quit s l h = quit-tells i s h

run_ahead-tells : {k : Kinds} (i : IsTelling k) (lines : List Line) → AllByRecursion k.line lines → (s : State) → k.state s → k.state (run_ahead lines s)
run_ahead-tells i [] ls s h = h
run_ahead-tells {k} i (l ∷ ahead) ls s h =
    let next : k.state (run_line l ahead s) = part_slow-tells i (does s.ran l (past ahead s)) (does-tells i s.ran l (past ahead s) ls.0 (i.ahead ahead s ls.1 h)) in
    choose-keeps k.state (may_run s l) (λ t. run_ahead ahead (run_line l ahead t)) unchanged s (λ e. run_ahead-tells i ahead ls.1 (run_line l ahead s) next) (λ e. h)

pub run_script-tells : {k : Kinds} (i : IsTelling k) (s : State) → k.state s → k.state (run_script s)
run_script-tells i s h = run_ahead-tells i s.lines (i.lines s h) s h

-- ---- timers of connections

timers-tell : {k : Kinds} (i : IsTelling k) (has_come : State → Connection → Bool) (rule : ℕ → State → State) → ((serial : ℕ) (s : State) → k.state s → k.state (rule serial s)) → (s : State) → k.state s → k.state (timers has_come rule s)
timers-tell {k} i has_come rule goes s h = for_each-keeps k.state (serials s.connections) (timer has_come rule) one s h
  where
    one : (serial : ℕ) (t : State) → k.state t → k.state (timer has_come rule serial t)
    one serial t g = for_some-keeps k.state (connection t serial) (λ c. when (has_come t c) (λ u. part_slow (rule serial u))) unchanged t (λ c f. when-keeps-if k.state (has_come t c) (λ u. part_slow (rule serial u)) t (λ e. part_slow-tells i (rule serial t) (goes serial t g)) g) g

beat-tells : {k : Kinds} (i : IsTelling k) (serial : ℕ) (s : State) → k.state s → k.state (beat serial s)
beat-tells i serial s h = i.told Own (Client serial) msg.Alive (i.bare msg.Alive refl) (change serial (sent_beat s.at) s) (i.changed serial (sent_beat s.at) s (i.beaten s.at) h)

-- ---- the gate

switch_through-tells : {k : Kinds} (i : IsTelling k) (c : Cross) (s : State) → IsAt k c → k.state s → k.state (switch_through c s)
switch_through-tells i (Stay p) s at h = h
switch_through-tells i (Switch to p) s at h = switch-tells i Own to p s at h

try-tells : {k : Kinds} (i : IsTelling k) (w : Waiting) (s : State) → k.state s → k.state (try w s)
try-tells {k} i w s h =
    let e : Edge = edge_at_cursor s w.side in
    let g : k.state (hear_away s) = i.gate _ s h in
    for_some-keeps k.state (way s e) (λ v t. switch_through (through t v) t) unchanged (hear_away s) (λ v f. switch_through-tells i (through (hear_away s) v) (hear_away s) (through-at i (hear_away s) v (way-place i s e v f h) g) g) g

gate_timer-tells : {k : Kinds} (i : IsTelling k) (s : State) → k.state s → k.state (gate_timer s)
gate_timer-tells {k} i s h = for_some-keeps k.state (waiting s) (λ w. when (nat_le w.due s.at) (λ t. part_slow (try w t))) unchanged s (λ w e. when-keeps-if k.state (nat_le w.due s.at) (λ t. part_slow (try w t)) s (λ f. part_slow-tells i (try w s) (try-tells i w s h)) h) h

-- ---- all of them

pub after_timers-tells : {k : Kinds} (i : IsTelling k) (t : ℕ) (s : State) → k.state s → k.state (after_timers t s)
after_timers-tells i t s h =
    let a = timers-tell i has_died (part cause.Dead) (part-tells i cause.Dead) (clock t s) (i.clocked t s h) in
    let b = timers-tell i was_silent (part cause.Silent) (part-tells i cause.Silent) (deaths (clock t s)) a in
    let c = timers-tell i owes_beat beat (beat-tells i) (silences (deaths (clock t s))) b in
    gate_timer-tells i (beats (silences (deaths (clock t s)))) c
