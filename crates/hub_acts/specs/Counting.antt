-- What an act says of faults, of breaks and of serials.
use Rattle.std.specs.Prelude.{◌≡◌, ℕ, Bool, true, false, not, ◌==◌, List, [], ◌∷◌, ◌++◌, filter, Option, Some, None, Err}
use Rattle.share_base.specs.Counts.{Rises}
use Rattle.hub_acts.specs.declared.act.Act.{Act}
use Rattle.hub_acts.specs.declared.act.Act.TheVariants as act
use Rattle.hub_acts.specs.declared.answers.Waited.TheVariants as waited
use Rattle.hub_acts.specs.declared.answers.LinkWaited.TheVariants as link_waited
use Rattle.hub_acts.specs.declared.answers.AcceptAnswer.TheVariants as accepted
use Rattle.hub_acts.specs.declared.answers.ReadAnswer.TheVariants as read
use Rattle.hub_acts.specs.declared.answers.WriteAnswer.TheVariants as written

-- a failure of the hub or link itself
abbrev pub is_fault : Act → Bool
is_fault (act.Listen port (Err e)) = true
is_fault (act.Wait ms waited.Failed marks) = true
is_fault (act.LinkConnect host port (Err e)) = true
is_fault (act.LinkWait ms link_waited.Failed) = true
is_fault a = false

-- a failure of one connection
abbrev pub is_break : Act → Bool
is_break (act.Accept accepted.Failed) = true
is_break (act.Read serial room read.Failed bytes) = true
is_break (act.Write serial bytes written.Failed) = true
is_break (act.LinkRead room read.Failed bytes) = true
is_break (act.LinkWrite bytes written.Failed) = true
is_break a = false

-- the count rose, or it stayed
abbrev pub Counts : Bool → ℕ → ℕ → Type 0
Counts true old new = Rises old new
Counts false old new = new ≡ old

-- a call counts what its act says, and nothing where it made none
abbrev pub counts_in : (Act → Bool) → Option Act → Bool
counts_in is_counted None = false
counts_in is_counted (Some a) = is_counted a

-- the latest serial that was given
abbrev pub latest_with : Act → ℕ → ℕ
latest_with (act.Accept (accepted.New serial)) latest = serial
latest_with a latest = latest

-- the open serials, in the order of their acceptance
abbrev pub open_with : Act → List ℕ → List ℕ
open_with (act.Accept (accepted.New serial)) serials = serials ++ serial ∷ []
open_with (act.Close serial) serials = filter (λ s. not (s == serial)) serials
open_with a serials = serials
