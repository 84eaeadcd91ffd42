use Rattle.std.proofs.Common.{ℕ, ◌∷◌, sym, subst}
use Rattle.share_base.specs.Moments.{moment_of}
use Rattle.edge_cross.specs.Gates.{Represents, asked}
use Rattle.machine.specs.GateCalls.{delay, tap_time, before_ask}
use Rattle.screen_crossing.specs.Remembering.{Heard}
use Rattle.screen_crossing.proofs.Taps.{tap_asked}
use Rattle.screen_crossing.proofs.switch_gate.SwitchGate.ask.Goals as goal

pub returns-clause-hears : goal.returns-clause-hears
returns-clause-hears c = λ s at remembers.
    let before : Heard c.leave_other.new.self s.config.settings (before_ask s c.args.side) = c.leave_other.ensures s remembers in
    record {
      gate = subst (λ (now : ℕ). Represents c.ask.new.self (delay s) (tap_time s) (asked now c.args.side ∷ before_ask s c.args.side)) (sym at) (c.ask.ensures.hears (delay s) (tap_time s) (before_ask s c.args.side) before.gate);
      counts_taps = before.counts_taps;
      tapped = sym (tap_asked (tap_time s) (moment_of s.at) c.args.side (before_ask s c.args.side));
    }
