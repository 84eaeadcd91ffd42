-- How the turns end, and why.
use Rattle.std.specs.Prelude.{◌≡◌, ℕ, ◌≤◌, Bool, true, false, List, [], ◌∷◌, ◌++◌, None, Some, Result, Ok, Err}
use Rattle.share_base.specs.Counts.{Rises}
use Rattle.hub_acts.specs.declared.act.Act.{Act}
use Rattle.hub_acts.specs.declared.act.Act.TheVariants as act
use Rattle.hub_acts.specs.declared.answers.LinkWaited.TheVariants as waited
use Rattle.hub_acts.specs.declared.answers.ReadAnswer.TheVariants as read
use Rattle.hub_acts.specs.Counting.{is_fault, is_break}
use Rattle.hub_acts.specs.Links.{LinkState}
use Rattle.client_core.specs.declared.client_end.ClientEnd.{ClientEnd}
use Rattle.client_core.specs.declared.client_end.ClientEnd.TheVariants as end
use Rattle.client_core.specs.declared.client_end.LostCause.TheVariants as lost
use Rattle.client_core.specs.Clients.{Client}
use Rattle.attentive_links.specs.Flags.{Flags}
use Rattle.attentive_links.specs.Places.{Place, Waits}
use Rattle.attentive_links.specs.Judging.{Judge, first_judge}
use Rattle.attentive_links.specs.InPart.{client_of, ComesTo}
use Rattle.client_loop.specs.declared.watch.Watch.{Watch}
use Rattle.client_loop.specs.Stages.{Course, Stage, Made, waits_in}

-- ---- causes

-- the last act is such a one
abbrev pub EndsIn : (Act → Bool) → List Act → Type 0
EndsIn is acts = (before : List Act) × (a : Act) × (acts ≡ before ++ a ∷ []) × (is a ≡ true)

-- it says that the stream has ended
abbrev pub is_over : Act → Bool
is_over (act.LinkWait ms waited.Over) = true
is_over (act.LinkRead room read.End bytes) = true
is_over a = false

-- where so many turns may be made, the acts of the turns, which judged so, lead to that end
abbrev pub EndsBy : ClientEnd → ℕ → List Act → Judge → Type 0
EndsBy end.TurnsSpent turns acts j =
    (waits_in acts ≡ turns) × (j.place ≡ Waits) × (j.client.done ≡ None)
EndsBy end.LinkFault turns acts j = EndsIn is_fault acts × (j.client.done ≡ None)
EndsBy (end.Lost lost.Ended) turns acts j =
    EndsIn is_over acts × (j.client.done ≡ Some (end.Lost lost.Ended))
EndsBy (end.Lost lost.Failed) turns acts j =
    EndsIn is_break acts × (j.client.done ≡ Some (end.Lost lost.Failed))
EndsBy end.WriteFault turns acts j = Unit {0}
EndsBy end.OutOfMemory turns acts j = Unit {0}
EndsBy e turns acts j = j.client.done ≡ Some e

-- ---- counts of the link. Where the sink failed or memory ran out, they may have risen before

abbrev pub CountsFaults : ClientEnd → ℕ → ℕ → Type 0
CountsFaults end.LinkFault old new = Rises old new
CountsFaults end.WriteFault old new = old ≤ new
CountsFaults end.OutOfMemory old new = old ≤ new
CountsFaults e old new = new ≡ old

abbrev pub CountsBreaks : ClientEnd → ℕ → ℕ → Type 0
CountsBreaks (end.Lost lost.Failed) old new = Rises old new
CountsBreaks end.WriteFault old new = old ≤ new
CountsBreaks end.OutOfMemory old new = old ≤ new
CountsBreaks e old new = new ≡ old

-- ---- how far the client came

-- it took all acts; where memory ran out, the last one maybe in part
abbrev pub ComesBy : ClientEnd → Client → List Act → Client → Type 0
ComesBy end.WriteFault first acts d = ComesTo first acts d
ComesBy end.OutOfMemory first acts d = ComesTo first acts d
ComesBy e first acts d = d ≡ client_of first acts

-- the turns came to that end. The client's screen is that of the one which the attendant stands for
pub record Halt {C L : Type 0} (stands : C → List ℕ → Client → Type 0) (state : L → LinkState)
    (leads : L → L → Type 0) (r : Course L) (e : ClientEnd) (core : C) (link : L) : Type 0 where
  pub acts : List Act
  pub judge : Judge
  pub made : Made (first_judge r.first) (state r.link) (state link) acts judge
  pub waits : waits_in acts ≤ r.turns
  pub faults : CountsFaults e (state r.link).faults (state link).faults
  pub breaks : CountsBreaks e (state r.link).breaks (state link).breaks
  pub led : leads r.link link
  pub cause : EndsBy e r.turns acts judge
  pub last : Client
  pub came : ComesBy e r.first acts last
  pub held : Client
  pub stood : stands core r.front held
  pub shown : held.shown ≡ last.shown

-- the sink failed
abbrev pub is_broken : ClientEnd → Bool
is_broken end.WriteFault = true
is_broken e = false

-- what a step of a turn leads to: that act is due next, or the turns end. The sink has no part in
-- it
abbrev pub AfterStep : {C L : Type 0} → (C → List ℕ → Client → Type 0) → (L → LinkState)
    → (L → L → Type 0) → Course L → Result (Unit {0}) ClientEnd → C → L → Watch
    → (Flags → Client → Place) → Type 0
AfterStep stands state leads r (Ok going) core link watch due =
    Stage stands state leads r core link watch due
AfterStep stands state leads r (Err e) core link watch due =
    (is_broken e ≡ false) × Halt stands state leads r e core link
