-- A server of which one part changed is in the state in which that part changed.
use Rattle.std.specs.Prelude.{◌≡◌, ℕ, ◌+◌, Bool, true, List, Option, None, map, drop}
use Rattle.share_base.specs.declared.numbers.RuleNo.{RuleNo}
use Rattle.modifier_map.specs.Presses as presses
use Rattle.edge_cross.specs.Gates as gates
use Rattle.machine.specs.Scripts.{Line}
use Rattle.machine.specs.States.{State, Point}
use Rattle.machine.specs.Running.{past}
use Rattle.pressed_inputs.specs.declared.pressed.Pressed.{Pressed}
use Rattle.pressed_inputs.specs.Keeping.{Keeps}
use Rattle.screen_crossing.specs.declared.point.Point as kept
use Rattle.screen_crossing.specs.declared.switch_gate.SwitchGate.{SwitchGate}
use Rattle.screen_crossing.specs.Points.{point_of}
use Rattle.screen_crossing.specs.Remembering.{Heard}
use Rattle.server_core.specs.declared.server.ServerCore.{ServerCore}
use Rattle.server_core.specs.Lines.{line_of}
use Rattle.server_core.specs.Standing.{Beside, Stands}
use Prim.{search}

-- the lock
pub stands-locked : (b : Beside) (core : ServerCore) (s : State) (x y : Bool) → Stands b core s → x ≡ y → Stands b (record core { is_locked = x }) (record s { is_locked = y })
stands-locked b core s x y h e = search

-- the cursor
pub stands-cursor : (b : Beside) (core : ServerCore) (s : State) (p : kept.Point) (q : Point) → Stands b core s → point_of p ≡ q → Stands b (record core { cursor = p }) (record s { cursor = q })
stands-cursor b core s p q h e = search

-- the gate
pub stands-gate : (b : Beside) (core : ServerCore) (s : State) (g : SwitchGate) (calls : List gates.Call) → Stands b core s → Heard g s.config.settings calls → Stands b (record core { gate = g }) (record s { gate_calls = calls })
stands-gate b core s g calls h e = search

-- what is held down
pub stands-pressed : (b : Beside) (core : ServerCore) (s : State) (p : Pressed) (keys : List presses.Call) (buttons : List ℕ) (taken_keys taken_buttons : List (ℕ × RuleNo)) → Stands b core s → Keeps p (record { presses = keys; buttons = buttons; taken_keys = taken_keys; taken_buttons = taken_buttons }) → Stands b (record core { pressed = p }) (record s { presses = keys; buttons = buttons; taken_keys = taken_keys; taken_buttons = taken_buttons })
stands-pressed b core s p keys buttons taken_keys taken_buttons h e = search

-- the line that is run next
pub stands-past : (b : Beside) (core : ServerCore) (s : State) (n : ℕ) (ahead : List Line) → Stands b core s → map line_of (drop n core.script.lines) ≡ ahead → n ≡ s.ran + 1 → Stands b (record core { ran = n; sleeps_until = None }) (past ahead s)
stands-past b core s n ahead h e f = search

-- the sleep
pub stands-sleeping : (b : Beside) (core : ServerCore) (s : State) (x y : Option ℕ) → Stands b core s → x ≡ y → Stands b (record core { sleeps_until = x }) (record s { sleeps_until = y })
stands-sleeping b core s x y h e = search

-- the end of the script
pub stands-quit : (b : Beside) (core : ServerCore) (s : State) → Stands b core s → Stands b (record core { has_quit = true }) (record s { has_quit = true })
stands-quit b core s h = search
