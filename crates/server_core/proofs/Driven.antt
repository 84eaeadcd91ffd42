-- What holds in each state that a server may be in, holds in those that it serves.
use Rattle.std.specs.Prelude.{◌≡◌, refl, ℕ, Bool, true, is_some, List, [], ◌++◌, Option, Some, None, Result, Ok, Err, OnOk}
use Rattle.std.specs.Option.{option_map_or}
use Rattle.std.proofs.Common.{sym, ap, ◌∙◌}
use Rattle.std.proofs.lemmas.List.{append-nil}
use Rattle.machine.specs.Connections.{Connection}
use Rattle.machine.specs.States.{State}
use Rattle.machine.specs.Screens.{connection}
use Rattle.machine.specs.Queues.{total}
use Rattle.machine.specs.Happenings.{Happening, IsOpen}
use Rattle.machine.specs.Steps.{step}
use Rattle.machine.specs.Logs.{log_text}
use Rattle.server_engine.specs.Engines as engine
use Rattle.server_engine.specs.Engines.{Steps}
use Rattle.server_core.specs.declared.server.ServerCore.{ServerCore}
use Rattle.server_core.specs.Standing.{Beside, StandsWhere, Stands}
use Rattle.server_core.specs.Serving.{Serves}
use Rattle.server_core.specs.Taking.{queued_for}
use Rattle.server_core.specs.Leading.{Leads, Reads}
use Rattle.server_core.specs.Driving.{serves_in, departs_in}
use Prim.{search}

pub reads-served : {A : Type 0} (core : ServerCore) (answer : A) (f : State → A) → Reads core answer f → engine.Reads serves_in core answer f
reads-served core answer f r = λ o latest front s reached h. r h.beside s h.stands

pub leads-served : (old new : ServerCore) (rule : State → State) → Leads old new rule → (front : List ℕ) (s : State) → Serves front old s → Serves front new (rule s)
leads-served old new rule l = λ front s h. record { beside = h.beside; front_is = h.front_is; rests = h.rests; stands = l h.beside s h.stands }

-- whether it is broken is no part of its state
stands-flagged : (b : Beside) (core : ServerCore) (s : State) (broken : Bool) → Stands b core s → Stands b (record core { is_broken = broken }) s
stands-flagged b core s broken h = search

serves-flagged : (front : List ℕ) (core : ServerCore) (s : State) (broken : Bool) → Serves front core s → Serves front (record core { is_broken = broken }) s
serves-flagged front core s broken h = record { beside = h.beside; front_is = h.front_is; rests = h.rests; stands = stands-flagged h.beside core s broken h.stands }

pub steps-flagged : {A E : Type 0} (r : Result A E) (old new : ServerCore) (broken : Bool) (h : Happening) → OnOk r (Steps serves_in old new h) → OnOk r (Steps serves_in old (record new { is_broken = broken }) h)
steps-flagged (Ok a) old new broken h steps = λ o latest front s reached allowed was. serves-flagged front new (step s h) broken (steps o latest front s reached allowed was)
steps-flagged (Err e) old new broken h steps = tt

-- ---- the log

pub logs-departing : (core : ServerCore) (text : List ℕ) → text ≡ core.log → engine.Logs departs_in core text
logs-departing core text e = λ o latest front s reached h. ap (λ f. f ++ text) (sym h.front_is) ∙ (ap (λ t. h.beside.front ++ t) e ∙ h.leaves.log)

-- all of it was read
stands-cleared : (P : State → Type 0) (b : Beside) (core : ServerCore) (s : State) → StandsWhere P b core s → StandsWhere P (record b { front = log_text s }) (record core { log = [] }) s
stands-cleared P b core s h = search (append-nil (log_text s))

pub serves-cleared : (core : ServerCore) → engine.ClearsLog serves_in core (record core { log = [] })
serves-cleared core = λ o latest front s reached h. record { beside = record h.beside { front = log_text s }; front_is = refl; rests = h.rests; stands = stands-cleared _ h.beside core s h.stands }

pub departs-cleared : (core : ServerCore) → engine.ClearsLog departs_in core (record core { log = [] })
departs-cleared core = λ o latest front s reached h. record { beside = record h.beside { front = log_text s }; front_is = refl; rests = h.rests; leaves = stands-cleared _ h.beside core s h.leaves }

-- ---- how much was queued

pub open-total : (s : State) (n : ℕ) → IsOpen s n → queued_for s n ≡ total s.routed n
open-total s n h = by (connection s n) h
  where
    by : (o : Option Connection) → is_some o ≡ true → option_map_or (λ (c : Connection). total s.routed n) o 0 ≡ total s.routed n
    by None h = absurd (let x : ⊥ = cc in x)
    by (Some c) h = refl
