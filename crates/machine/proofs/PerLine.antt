-- The entries of some origins are those that the lines that ran add, in their order, where nothing else adds any.
use Rattle.std.specs.Prelude.{◌≡◌, refl, ℕ, Bool, true, false, List, [], ◌∷◌, ◌++◌, if◌then◌else◌}
use Rattle.std.specs.List.{flat_map}
use Rattle.std.proofs.Common.{sym, ap, ◌∙◌, append_assoc}
use Rattle.std.proofs.lemmas.List.{append-nil}
use Rattle.std.proofs.lemmas.List.Concat.{flat_map-append}
use Rattle.hello_states.specs.declared.part_cause.PartCause.TheVariants as cause
use Rattle.machine.specs.Scripts.{Line}
use Rattle.machine.specs.Targets.{Origin, Own}
use Rattle.machine.specs.States.{State}
use Rattle.machine.specs.Combining.{choose, unchanged}
use Rattle.machine.specs.Running.{does, past, run_line, run_ahead, may_run}
use Rattle.machine.specs.Timers.{after_timers}
use Rattle.machine.specs.Happenings.{Happening, Joined, Got, Ended, Failed, Took, Moment, Closed}
use Rattle.machine.specs.Steps.{step, run}
use Rattle.machine.specs.OneForOne.{Delivery, deliveries, RunLine, lines_ran, lines_run_now, lines_run_in, lines_run}
use Rattle.machine.proofs.OfOrigins.{invariant}
use Rattle.machine.proofs.KeepPartings.{part_slow-keeps}
use Rattle.machine.proofs.KeepScripts.{after_timers-keeps}
use Rattle.machine.proofs.KeepSteps.{got-keeps, breaks-keeps}
use Rattle.machine.proofs.Runs.{accept-keeps}

-- a line that runs adds these
abbrev pub Adds : (Origin → Bool) → (RunLine → List Delivery) → Type 0
Adds test f = (number : ℕ) (l : Line) (s : State) → deliveries test (does number l s).routed ≡ deliveries test s.routed ++ f (record { number = number; line = l; state = s })

run_line-adds : (test : Origin → Bool) → test Own ≡ false → (f : RunLine → List Delivery) → Adds test f → (l : Line) (ahead : List Line) (s : State) → deliveries test (run_line l ahead s).routed ≡ deliveries test s.routed ++ f (record { number = s.ran; line = l; state = past ahead s })
run_line-adds test own f adds l ahead s =
    let was : List Delivery = deliveries test s.routed ++ f (record { number = s.ran; line = l; state = past ahead s }) in
    part_slow-keeps (invariant test own was) (does s.ran l (past ahead s)) (adds s.ran l (past ahead s))

run_ahead-adds : (test : Origin → Bool) → test Own ≡ false → (f : RunLine → List Delivery) → Adds test f → (lines : List Line) (s : State) → deliveries test (run_ahead lines s).routed ≡ deliveries test s.routed ++ flat_map f (lines_ran lines s)
run_ahead-adds test own f adds [] s = sym (append-nil (deliveries test s.routed))
run_ahead-adds test own f adds (l ∷ ahead) s = by (run_ahead-adds test own f adds ahead (run_line l ahead s)) (may_run s l)
  where
    by : deliveries test (run_ahead ahead (run_line l ahead s)).routed ≡ deliveries test (run_line l ahead s).routed ++ flat_map f (lines_ran ahead (run_line l ahead s)) → (b : Bool) → deliveries test (choose b (λ t. run_ahead ahead (run_line l ahead t)) unchanged s).routed ≡ deliveries test s.routed ++ flat_map f (if b then (record { number = s.ran; line = l; state = past ahead s }) ∷ lines_ran ahead (run_line l ahead s) else [])
    by later true = later ∙ (ap (λ ds. ds ++ flat_map f (lines_ran ahead (run_line l ahead s))) (run_line-adds test own f adds l ahead s) ∙ append_assoc (deliveries test s.routed) (f (record { number = s.ran; line = l; state = past ahead s })) (flat_map f (lines_ran ahead (run_line l ahead s))))
    by later false = sym (append-nil (deliveries test s.routed))

step-adds : (test : Origin → Bool) → test Own ≡ false → (f : RunLine → List Delivery) → Adds test f → (s : State) (h : Happening) → deliveries test (step s h).routed ≡ deliveries test s.routed ++ flat_map f (lines_run_in s h)
step-adds test own f adds s (Moment t) =
    let u : State = after_timers t s in
    run_ahead-adds test own f adds u.lines u ∙ ap (λ ds. ds ++ flat_map f (lines_run_now u)) (after_timers-keeps (invariant test own (deliveries test s.routed)) t s refl)
step-adds test own f adds s (Joined serial) = accept-keeps (invariant test own (deliveries test s.routed)) serial s refl ∙ sym (append-nil (deliveries test s.routed))
step-adds test own f adds s (Got serial piece) = got-keeps (invariant test own (deliveries test s.routed)) serial piece s refl ∙ sym (append-nil (deliveries test s.routed))
step-adds test own f adds s (Ended serial) = breaks-keeps (invariant test own (deliveries test s.routed)) cause.Ended serial s refl ∙ sym (append-nil (deliveries test s.routed))
step-adds test own f adds s (Failed serial) = breaks-keeps (invariant test own (deliveries test s.routed)) cause.Failed serial s refl ∙ sym (append-nil (deliveries test s.routed))
step-adds test own f adds s (Took serial count) = sym (append-nil (deliveries test s.routed))
step-adds test own f adds s (Closed serial) = sym (append-nil (deliveries test s.routed))

pub run-adds : (test : Origin → Bool) → test Own ≡ false → (f : RunLine → List Delivery) → Adds test f → (hs : List Happening) (s : State) → deliveries test (run hs s).routed ≡ deliveries test s.routed ++ flat_map f (lines_run hs s)
run-adds test own f adds [] s = sym (append-nil (deliveries test s.routed))
run-adds test own f adds (h ∷ hs) s =
    run-adds test own f adds hs (step s h)
    ∙ (ap (λ ds. ds ++ flat_map f (lines_run hs (step s h))) (step-adds test own f adds s h)
    ∙ (append_assoc (deliveries test s.routed) (flat_map f (lines_run_in s h)) (flat_map f (lines_run hs (step s h)))
    ∙ ap (λ ds. deliveries test s.routed ++ ds) (sym (flat_map-append f (lines_run_in s h) (lines_run hs (step s h))))))
