-- The switch gate: what it heard since its last reset, and whether it lets a motion pass.
use Rattle.std.specs.Prelude.{ℕ, Bool, true, false, not, nat_lt, List, ◌∷◌, Option, if◌then◌else◌}
use Rattle.std.specs.Option.{option_map, option_map_or}
use Rattle.share_base.specs.declared.shape.Side.{Side}
use Rattle.share_base.specs.Shapes.{same_side}
use Rattle.option_table.specs.declared.rows.OptionName.TheVariants as option
use Rattle.option_table.specs.Settings.{standing}
use Rattle.edge_cross.specs.declared.gate.GateAnswer.{GateAnswer}
use Rattle.edge_cross.specs.declared.gate.GateAnswer.TheVariants.{Pass}
use Rattle.edge_cross.specs.declared.gate.Waiting.{Waiting}
use Rattle.edge_cross.specs.declared.gate.Tap.{Tap}
use Rattle.edge_cross.specs.Gates.{Call, Away, asked, gate_answer, gate_wait, kept_tap}
use Rattle.machine.specs.States.{State}

-- both in milliseconds
abbrev pub delay : State → ℕ
delay s = standing s.config.settings option.SwitchDelay

abbrev pub tap_time : State → ℕ
tap_time s = standing s.config.settings option.SwitchDoubleTap

abbrev pub waiting : State → Option Waiting
waiting s = gate_wait (delay s) (tap_time s) s.gate_calls

-- the side of the tap or of the wait that is kept
abbrev pub kept_side : State → Option Side
kept_side s =
    if nat_lt 0 (tap_time s)
    then option_map (λ (t : Tap). t.side) (kept_tap (tap_time s) s.gate_calls)
    else option_map (λ (w : Waiting). w.side) (waiting s)

-- another side than that one is kept
abbrev pub keeps_other : State → Side → Bool
keeps_other s side = option_map_or (λ kept. not (same_side kept side)) (kept_side s) false

-- before it is asked about another side, it hears that the motion is away
abbrev pub before_ask : State → Side → List Call
before_ask s side = if keeps_other s side then Away ∷ s.gate_calls else s.gate_calls

abbrev pub is_pass : GateAnswer → Bool
is_pass Pass = true
is_pass _ = false

abbrev pub passes : State → Side → Bool
passes s side = is_pass (gate_answer (delay s) (tap_time s) (before_ask s side) s.at side)

-- ---- what it hears

abbrev pub hear_away : State → State
hear_away s = record s { gate_calls = Away ∷ s.gate_calls }

abbrev pub hear_ask : Side → State → State
hear_ask side s = record s { gate_calls = asked s.at side ∷ before_ask s side }
