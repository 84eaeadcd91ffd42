-- Which phase the server keeps of a connection.
use Rattle.std.specs.Prelude.{ℕ}
use Rattle.hello_states.specs.declared.part_cause.PartCause.{PartCause}
use Rattle.hello_states.specs.Phases as phases
use Rattle.hello_states.specs.Handshake.{parting_for}
use Rattle.hello_states.specs.TypedPhases.{greeting_phase, asked_phase, joined_phase, parting_phase}
use Rattle.connection_table.specs.declared.phase.Phase as kept
use Rattle.connection_table.specs.declared.phase.Phase.TheVariants as in_phase

abbrev pub phase_of : kept.Phase → phases.Phase
phase_of (in_phase.Greeting g) = greeting_phase g
phase_of (in_phase.Asked a) = asked_phase a
phase_of (in_phase.Joined j) = joined_phase j
phase_of (in_phase.Parting p) = parting_phase p

-- after a parting; one that is parting stays as it is
abbrev pub parted_phase : PartCause → ℕ → phases.Phase → phases.Phase
parted_phase cause now (phases.Parting why moment) = phases.Parting why moment
parted_phase cause now (phases.Greeting accepted) = parting_for cause now
parted_phase cause now (phases.Asked asked) = parting_for cause now
parted_phase cause now (phases.Joined joined) = parting_for cause now
