-- What a switch gate remembers of what it heard.
use Rattle.std.specs.Prelude.{◌≡◌, ℕ, nat_lt, List}
use Rattle.std.specs.Option.{option_map}
use Rattle.option_table.specs.declared.rows.OptionName.TheVariants as option
use Rattle.option_table.specs.Settings.{Values, standing}
use Rattle.edge_cross.specs.declared.gate.Tap.{Tap}
use Rattle.edge_cross.specs.Gates.{Call, Represents, kept_tap}
use Rattle.machine.specs.States.{State}
use Rattle.screen_crossing.specs.declared.switch_gate.SwitchGate.{SwitchGate}

-- both in milliseconds
abbrev pub delay_in : Values → ℕ
delay_in settings = standing settings option.SwitchDelay

abbrev pub tap_time_in : Values → ℕ
tap_time_in settings = standing settings option.SwitchDoubleTap

-- it heard these calls since it was made or reset, under these options
pub record Heard (g : SwitchGate) (settings : Values) (calls : List Call) : Type 0 where
  pub gate : Represents g.gate (delay_in settings) (tap_time_in settings) calls
  pub counts_taps : g.counts_taps ≡ nat_lt 0 (tap_time_in settings)
  pub tapped : g.tapped ≡ option_map (λ (t : Tap). t.side) (kept_tap (tap_time_in settings) calls)

-- the calls of a state
abbrev pub Remembers : SwitchGate → State → Type 0
Remembers g s = Heard g s.config.settings s.gate_calls
