-- The log that is written after a step.
use Rattle.std.specs.Prelude.{◌≡◌, ℕ, true, false, List, ◌++◌, length, take, drop, Ok, Err}
use Rattle.std.proofs.Common.{arith, ap, sym, ◌∙◌, append_assoc}
use Rattle.std.proofs.lemmas.List.{take_all, take-append-drop}
use Rattle.share_base.specs.Fronts.{IsFront}
use Rattle.share_base.specs.Writing.{SinkState, WritesAll}
use Rattle.share_base.proofs.Fronts.{front_of_longer}
use Rattle.machine.specs.States.{State}
use Rattle.machine.specs.Logs.{log_text}
use Rattle.engine_loop.specs.declared.serve_end.ServeEnd.TheVariants as ends
use Rattle.server_engine.specs.Engines.{Logs, ClearsLog}
use Rattle.engine_loop.specs.Turns.{LogsOn}

module _ {E : Type 0} (serves departs : E → List ℕ → State → Type 0) (departing : (engine : E) (front : List ℕ) (s : State) → serves engine front s → departs engine front s) (core core' : E) (text : List ℕ) (old new : SinkState) (logs : Logs departs core text) where
  pub all-logged : WritesAll true text old new → ClearsLog serves core core' → LogsOn serves (Ok tt) core core' old new
  all-logged w clears o latest front s reached served =
      let whole : front ++ text ≡ log_text s = logs o latest front s reached (departing core front s served) in
      (text, whole, record { taken = w.taken; faults = w.counts }, clears o latest front s reached served)

  pub log-failed : WritesAll false text old new → LogsOn serves (Err ends.WriteFault) core core old new
  log-failed w o latest front s reached served =
      let n : ℕ = w.taken.0 in
      let whole : front ++ text ≡ log_text s = logs o latest front s reached (departing core front s served) in
      let split : log_text s ≡ (front ++ take n text) ++ drop n text = sym whole ∙ ap (λ (xs : List ℕ). front ++ xs) (sym (take-append-drop n text)) ∙ sym (append_assoc front (take n text) (drop n text)) in
      let begins : IsFront (front ++ take n text) (log_text s) = front_of_longer (front ++ take n text) (drop n text) (log_text s) (log_text s) split (take_all (length (log_text s)) (log_text s) (omega arith)) in
      (take n text, begins, record { taken = w.taken.2; faults = w.counts }, served)
