-- What holds of a server that was started, and that goes on.
use Rattle.std.specs.Prelude.{◌≡◌, refl, ℕ, true, ◌&&◌, List, [], ◌∷◌, map, Result, Ok, Err, OnOk}
use Rattle.std.specs.List.{list_all}
use Rattle.std.proofs.Common.{arith, ap, ◌∙◌}
use Rattle.std.proofs.lemmas.Bool.Decides.{nat_tests}
use Rattle.script_screen.specs.declared.script.ScriptLine.{ScriptLine}
use Rattle.script_screen.specs.declared.script.ScriptLine.TheVariants as text
use Rattle.script_screen.specs.Scripts.{ScriptText, IsScript, IsScriptLine, AreScriptLines}
use Rattle.machine.specs.States.{State}
use Rattle.machine.specs.KeyButtons.{is_script_button, pressed_by_line}
use Rattle.machine.specs.Happenings.{Happening, Closed}
use Rattle.machine.specs.Held.{HasScriptButtons}
use Rattle.reached_states.specs.Reaching.{Origin, start_of, Reached}
use Rattle.reached_states.proofs.OpenAfter.{closing-is-open}
use Rattle.reached_states.proofs.Reaching.{goes-on}
use Rattle.reached_states.proofs.Promises.{held-where-reached, all-queued-where-reached, one-for-one-where-reached}
use Rattle.server_engine.specs.Engines.{Steps, ClosesParting, ClearsLog}
use Rattle.server_core.specs.declared.server.ServerCore.{ServerCore}
use Rattle.server_core.specs.Lines.{line_of}
use Rattle.server_core.specs.Scripts.{script_of}
use Rattle.server_core.specs.Driving.{serves_in, departs_in}
use Rattle.server_core.specs.Standing.{Stands, nothing_told}
use Rattle.server_core.specs.Promises.{IsStart, RunsIn, Runs, GoesOnRunning, ClosesRunning, ClosesAtEnd, ClearsRunning, ClearsAtEnd}

-- ---- keys of a script

line_buttons : (l : ScriptLine) → IsScriptLine l → pressed_by_line is_script_button (line_of l) ≡ true
line_buttons (text.Sleep ms) h = refl
line_buttons (text.Await screen) h = refl
line_buttons (text.KeyDown id button) h = grind (arith, nat_tests, h.1, h.2)
line_buttons (text.KeyRepeat count button) h = refl
line_buttons (text.KeyUp button) h = refl
line_buttons (text.ButtonDown b) h = refl
line_buttons (text.ButtonUp b) h = refl
line_buttons (text.Motion dx dy) h = refl
line_buttons (text.Wheel x y) h = refl
line_buttons (text.Saver on) h = refl
line_buttons (text.Copy clip bytes) h = refl
line_buttons text.Quit h = refl

all_buttons : (above ls : List ScriptLine) → AreScriptLines above ls → list_all (pressed_by_line is_script_button) (map line_of ls) ≡ true
all_buttons above [] h = refl
all_buttons above (l ∷ ls) h = both (line_buttons l h.0) (all_buttons _ ls h.2)
  where
    both : pressed_by_line is_script_button (line_of l) ≡ true → list_all (pressed_by_line is_script_button) (map line_of ls) ≡ true → (pressed_by_line is_script_button (line_of l) && list_all (pressed_by_line is_script_button) (map line_of ls)) ≡ true
    both one rest = ap (λ b. b && list_all (pressed_by_line is_script_button) (map line_of ls)) one ∙ rest

pub has-script-buttons : (script : ScriptText) → IsScript script → HasScriptButtons (script_of script)
has-script-buttons script h = all_buttons [] script.lines h.lines

-- ---- the laws

runs-in : (serves : ServerCore → List ℕ → State → Type 0) (o : Origin) (latest : ℕ) (front : List ℕ) (core : ServerCore) (s : State) → IsStart o → Reached o latest s → serves core front s → RunsIn serves o latest front core s
runs-in serves o latest front core s begins reached h =
    record {
      begins = begins;
      reached = reached;
      is_in = h;
      held = held-where-reached o latest s reached begins.config begins.script;
      left_out = all-queued-where-reached o latest s reached;
      one_for_one = one-for-one-where-reached o reached.happenings latest s reached.by;
    }

pub goes-on-running : (h : Happening) (old new : ServerCore) → Steps serves_in old new h → GoesOnRunning h old new
goes-on-running h old new steps = λ o latest front s r allowed. runs-in serves_in o _ front new _ r.begins (goes-on o latest s h r.reached allowed) (steps o latest front s r.reached allowed r.is_in)

pub goes-on-where-ok : {A E : Type 0} (r : Result A E) (h : Happening) (old new : ServerCore) → OnOk r (Steps serves_in old new h) → OnOk r (GoesOnRunning h old new)
goes-on-where-ok (Ok a) h old new steps = goes-on-running h old new steps
goes-on-where-ok (Err e) h old new steps = tt

pub closes-running : (n : ℕ) (old new : ServerCore) → ClosesParting serves_in old new n → ClosesRunning n old new
closes-running n old new closes = λ o latest front s r e. runs-in serves_in o latest front new _ r.begins (goes-on o latest s (Closed n) r.reached (closing-is-open s n e)) (closes o latest front s r.reached e r.is_in)

pub closes-at-end : (n : ℕ) (old new : ServerCore) → Steps departs_in old new (Closed n) → ClosesAtEnd n old new
closes-at-end n old new steps = λ o latest front s r is_open. runs-in departs_in o latest front new _ r.begins (goes-on o latest s (Closed n) r.reached is_open) (steps o latest front s r.reached is_open r.is_in)

pub clears-running : (old new : ServerCore) → ClearsLog serves_in old new → ClearsRunning old new
clears-running old new clears = λ o latest front s r. runs-in serves_in o latest _ new s r.begins r.reached (clears o latest front s r.reached r.is_in)

pub clears-at-end : (old new : ServerCore) → ClearsLog departs_in old new → ClearsAtEnd old new
clears-at-end old new clears = λ o latest front s r. runs-in departs_in o latest _ new s r.begins r.reached (clears o latest front s r.reached r.is_in)

-- at the start
pub runs-first : (o : Origin) (core : ServerCore) → IsStart o → Stands nothing_told core (start_of o) → Runs o 0 [] core (start_of o)
runs-first o core begins h = runs-in serves_in o 0 [] core (start_of o) begins (record { happenings = []; by = record { allowed = tt; state = refl; latest_is = refl } }) (record { beside = nothing_told; front_is = refl; rests = λ serial. (refl, refl); stands = h })
