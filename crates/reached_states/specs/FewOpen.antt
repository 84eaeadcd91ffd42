-- The law that few connections are open, but for those that part at once as there are too many.
use Rattle.std.specs.Prelude.{◌≡◌, ℕ, ◌≤◌, Bool, true, false, not, length, filter, None}
use Rattle.hello_states.specs.declared.part_cause.PartCause.TheVariants as cause
use Rattle.hello_states.specs.Phases.{Phase, Parting}
use Rattle.machine.specs.Connections.{Connection}
use Rattle.machine.specs.States.{State}
use Rattle.machine.specs.Readings.{closing}
use Rattle.machine.specs.Acceptance.{most_open}
use Rattle.reached_states.specs.Reaching.{Origin, Reached}

abbrev pub is_full_in : Phase → Bool
is_full_in (Parting cause.Full moment) = true
is_full_in _ = false

-- it doesn't part as one too many
abbrev pub is_counted : Connection → Bool
is_counted c = not (is_full_in c.phase)

-- one too many is to be closed at once, so where none is to be closed there is no such
pub record FewOpen (s : State) : Type 0 where
  pub counted : length (filter is_counted s.connections) ≤ most_open
  pub settled : closing s ≡ None → length s.connections ≤ most_open

abbrev pub FewAreOpen : Type 0
FewAreOpen = (o : Origin) (latest : ℕ) (s : State) → Reached o latest s → FewOpen s
