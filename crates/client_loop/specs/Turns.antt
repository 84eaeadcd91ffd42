-- What a turn leads to, with the lines that are written in it.
use Rattle.std.specs.Prelude.{◌≡◌, ℕ, ◌+◌, List, ◌++◌, Result, Ok, Err}
use Rattle.share_base.specs.Counts.{Rises}
use Rattle.share_base.specs.Fronts.{IsFront}
use Rattle.share_base.specs.Told.{after}
use Rattle.share_base.specs.Writing.{SinkState}
use Rattle.hub_acts.specs.Links.{LinkState}
use Rattle.client_core.specs.declared.client_end.ClientEnd.{ClientEnd}
use Rattle.client_core.specs.declared.client_end.ClientEnd.TheVariants as end
use Rattle.client_core.specs.Clients.{Client}
use Rattle.attentive_links.specs.Places.{Waits}
use Rattle.client_loop.specs.declared.watch.Watch.{Watch}
use Rattle.client_loop.specs.Attendants.{text_of}
use Rattle.client_loop.specs.Stages.{Course, Stage, with_front}
use Rattle.client_loop.specs.Ends.{Halt}

-- ---- lines

-- the sink got that text
pub record Written (old new : SinkState) (text : List ℕ) : Type 0 where
  pub taken : new.taken ≡ after old.taken text
  pub faults : new.faults ≡ old.faults

-- the sink got that text, and then it failed
pub record Broken (old new : SinkState) (text : List ℕ) : Type 0 where
  pub taken : new.taken ≡ after old.taken text
  pub faults : Rises old.faults new.faults

-- all lines were written and cleared; or a front of them, and the client is the same
abbrev pub AfterLines : {C : Type 0} → (C → List ℕ → Client → Type 0) → Result (Unit {0}) ClientEnd
    → C → List ℕ → Client → SinkState → SinkState → Type 0
AfterLines stands (Ok done) core front c old new =
    (text : List ℕ) × (front ++ text ≡ text_of c) × Written old new text × stands core (text_of c) c
AfterLines stands (Err end.WriteFault) core front c old new =
    (text : List ℕ) × IsFront (front ++ text) (text_of c) × Broken old new text
    × stands core front c
AfterLines stands (Err e) core front c old new = ⊥

abbrev pub LinesOn : {C : Type 0} → (C → List ℕ → Client → Type 0) → Result (Unit {0}) ClientEnd → C
    → C → SinkState → SinkState → Type 0
LinesOn stands result core core' old new =
    (front : List ℕ) (c : Client) → stands core front c
    → AfterLines stands result core' front c old new

-- ---- turns

-- the sink got what was cleared of the lines
pub record Logged {C L : Type 0} (stands : C → List ℕ → Client → Type 0) (state : L → LinkState)
    (leads : L → L → Type 0) (r : Course L) (core : C) (link : L) (watch : Watch)
    (old new : SinkState) : Type 0 where
  pub front : List ℕ
  pub stage : Stage stands state leads (with_front front r) core link watch (λ fs c. Waits)
  pub wrote : Written old new front

-- the same where the turns have ended
pub record Halted {C L : Type 0} (stands : C → List ℕ → Client → Type 0) (state : L → LinkState)
    (leads : L → L → Type 0) (r : Course L) (e : ClientEnd) (core : C) (link : L)
    (old new : SinkState) : Type 0 where
  pub front : List ℕ
  pub halt : Halt stands state leads (with_front front r) e core link
  pub wrote : Written old new front

-- the sink failed, and had got a front of the lines
pub record Faulted {C L : Type 0} (stands : C → List ℕ → Client → Type 0) (state : L → LinkState)
    (leads : L → L → Type 0) (r : Course L) (core : C) (link : L) (old new : SinkState)
    : Type 0 where
  pub front : List ℕ
  pub halt : Halt stands state leads (with_front front r) end.WriteFault core link
  pub text : List ℕ
  pub begins : IsFront text (text_of halt.held)
  pub broke : Broken old new text

abbrev pub Ended : {C L : Type 0} → (C → List ℕ → Client → Type 0) → (L → LinkState)
    → (L → L → Type 0) → Course L → ClientEnd → C → L → SinkState → SinkState → Type 0
Ended stands state leads r end.WriteFault core link old new =
    Faulted stands state leads r core link old new
Ended stands state leads r e core link old new = Halted stands state leads r e core link old new

abbrev pub AfterTurn : {C L : Type 0} → (C → List ℕ → Client → Type 0) → (L → LinkState)
    → (L → L → Type 0) → Course L → Result (Unit {0}) ClientEnd → C → L → Watch → SinkState
    → SinkState → Type 0
AfterTurn stands state leads r (Ok going) core link watch old new =
    Logged stands state leads r core link watch old new
AfterTurn stands state leads r (Err e) core link watch old new =
    Ended stands state leads r e core link old new

abbrev pub turned_once : {L : Type 0} → Course L → Course L
turned_once r = record r { waits = r.waits + 1; reads = r.reads + 1 }

-- so many turns were made
abbrev pub turned : {L : Type 0} → ℕ → Course L → Course L
turned n r = record r { waits = n; reads = n }
