-- What the calls of an engine do to the states of the machine that it serves.
use Rattle.std.specs.Prelude.{◌≡◌, ℕ, ◌<◌, Bool, true, false, List, [], ◌++◌, length, Some}
use Rattle.machine.specs.States.{State}
use Rattle.machine.specs.Happenings as machine
use Rattle.machine.specs.Happenings.{IsAllowed, IsOpen, Closed}
use Rattle.machine.specs.Readings.{closing}
use Rattle.machine.specs.Queues.{total}
use Rattle.machine.specs.Logs.{log_text}
use Rattle.machine.specs.Steps.{step}
use Rattle.reached_states.specs.Reaching.{Origin, Reached}
use Rattle.attentive_acts.specs.Flags.{has_more}
use Rattle.attentive_acts.specs.Judging.{untaken}
use Rattle.server_engine.specs.declared.happening.Happening.{Happening}
use Rattle.server_engine.specs.declared.happening.Happening.TheVariants.{Joined, Got, Ended, Failed, Moment}

-- ---- happenings

-- what the machine is told
abbrev pub meaning : Happening → machine.Happening
meaning (Joined serial) = machine.Joined serial
meaning (Got serial piece) = machine.Got serial piece.now
meaning (Ended serial) = machine.Ended serial
meaning (Failed serial) = machine.Failed serial
meaning (Moment t) = machine.Moment t

-- ---- states that are served. Serves tells them, of an engine and the front of the log that was
-- cleared

-- from each state that is reached, where the happening may come there
abbrev pub Steps : {E : Type 0} → (E → List ℕ → State → Type 0) → E → E → machine.Happening → Type 0
Steps serves old new h = (o : Origin) (latest : ℕ) (front : List ℕ) (s : State) → Reached o latest s
    → IsAllowed latest s h → serves old front s → serves new front (step s h)

-- where it is the one to be closed now, as only a parting one is
abbrev pub ClosesParting : {E : Type 0} → (E → List ℕ → State → Type 0) → E → E → ℕ → Type 0
ClosesParting serves old new serial = (o : Origin) (latest : ℕ) (front : List ℕ) (s : State)
    → Reached o latest s → closing s ≡ Some serial → serves old front s
    → serves new front (step s (Closed serial))

-- the answer is what the machine's definition gives
abbrev pub Reads : {E A : Type 0} → (E → List ℕ → State → Type 0) → E → A → (State → A) → Type 0
Reads serves engine answer f = (o : Origin) (latest : ℕ) (front : List ℕ) (s : State)
    → Reached o latest s → serves engine front s → answer ≡ f s

abbrev pub Counts : {E : Type 0} → (E → List ℕ → State → Type 0) → E → ℕ → ℕ → Type 0
Counts serves engine serial answer = (o : Origin) (latest : ℕ) (front : List ℕ) (s : State)
    → Reached o latest s → IsOpen s serial → serves engine front s → answer ≡ total s.routed serial

-- all untaken bytes, where there are some that the connection may still take
abbrev pub AreNext : Bool → State → ℕ → List ℕ → Type 0
AreNext true s serial bytes = (bytes ≡ untaken s serial) × (0 < length bytes)
AreNext false s serial bytes = bytes ≡ []

abbrev pub Offers : {E : Type 0} → (E → List ℕ → State → Type 0) → E → ℕ → List ℕ → Type 0
Offers serves engine serial bytes = (o : Origin) (latest : ℕ) (front : List ℕ) (s : State)
    → Reached o latest s → serves engine front s → AreNext (has_more s serial) s serial bytes

-- the text of the log goes on from its front that was cleared
abbrev pub Logs : {E : Type 0} → (E → List ℕ → State → Type 0) → E → List ℕ → Type 0
Logs serves engine text = (o : Origin) (latest : ℕ) (front : List ℕ) (s : State)
    → Reached o latest s → serves engine front s → front ++ text ≡ log_text s

abbrev pub ClearsLog : {E : Type 0} → (E → List ℕ → State → Type 0) → E → E → Type 0
ClearsLog serves old new = (o : Origin) (latest : ℕ) (front : List ℕ) (s : State)
    → Reached o latest s → serves old front s → serves new (log_text s) s
