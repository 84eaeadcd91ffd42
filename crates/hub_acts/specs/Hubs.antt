-- What a hub tells, and what a call does to it.
use Rattle.std.specs.Prelude.{◌≡◌, ℕ, ◌+◌, ◌<◌, ◌≤◌, List, [], Option, Some, None}
use Rattle.hub_acts.specs.declared.act.Act.{Act}
use Rattle.hub_acts.specs.declared.answers.Waited.{Waited}
use Rattle.hub_acts.specs.declared.answers.Waited.TheVariants as waited
use Rattle.hub_acts.specs.declared.answers.AcceptAnswer.{AcceptAnswer}
use Rattle.hub_acts.specs.declared.answers.AcceptAnswer.TheVariants as accepted
use Rattle.hub_acts.specs.declared.answers.ReadAnswer.{ReadAnswer}
use Rattle.hub_acts.specs.declared.answers.ReadAnswer.TheVariants as read
use Rattle.hub_acts.specs.declared.answers.WriteAnswer.{WriteAnswer}
use Rattle.hub_acts.specs.declared.answers.WriteAnswer.TheVariants as written
use Rattle.hub_acts.specs.declared.marks.Mark.{Mark}
use Rattle.hub_acts.specs.Acts.{known_after}
use Rattle.hub_acts.specs.Counting.{Counts, counts_in, is_fault, is_break, latest_with, open_with}

-- the latest serial, 0 before the first; the open serials; the acts, where they are known; and two
-- counts
pub record HubState : Type 0 where
  pub latest : ℕ
  pub open_now : List ℕ
  pub acts : Option (List Act)
  pub faults : ℕ
  pub breaks : ℕ

abbrev pub latest_after : Option Act → ℕ → ℕ
latest_after None latest = latest
latest_after (Some a) latest = latest_with a latest

abbrev pub open_after : Option Act → List ℕ → List ℕ
open_after None serials = serials
open_after (Some a) serials = open_with a serials

-- a call that made this act, or none, led from the one state to the other
pub record HubCalls (made : Option Act) (old new : HubState) : Type 0 where
  pub latest : new.latest ≡ latest_after made old.latest
  pub open_now : new.open_now ≡ open_after made old.open_now
  pub acts : new.acts ≡ known_after made old.acts
  pub faults : Counts (counts_in is_fault made) old.faults new.faults
  pub breaks : Counts (counts_in is_break made) old.breaks new.breaks

-- ---- answers that suit their call

-- the list has marks only where the wait is ready
abbrev pub FitsWait : Waited → List Mark → List Mark → Type 0
FitsWait waited.Ready old new = Unit {0}
FitsWait waited.Over old new = new ≡ []
FitsWait waited.Failed old new = new ≡ []
FitsWait waited.OutOfMemory old new = new ≡ old

-- serials go up by one
abbrev pub FitsAccept : AcceptAnswer → ℕ → Type 0
FitsAccept (accepted.New serial) latest = serial ≡ latest + 1
FitsAccept answer latest = Unit {0}

abbrev pub FitsRead : ReadAnswer → ℕ → Type 0
FitsRead (read.Got n) room = (0 < n) × (n ≤ room)
FitsRead answer room = Unit {0}

abbrev pub FitsWrite : WriteAnswer → ℕ → Type 0
FitsWrite (written.Took n) offered = (0 < n) × (n ≤ offered)
FitsWrite answer offered = Unit {0}
