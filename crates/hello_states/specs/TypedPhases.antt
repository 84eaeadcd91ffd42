-- What a connection keeps in each phase, with its serial, and the phase that this is.
use Rattle.std.specs.Prelude.{ℕ}
use Rattle.hello_states.specs.declared.part_cause.PartCause.{PartCause}
use Rattle.hello_states.specs.Phases.{Phase, Greeting, Asked, Joined, Parting, AskedScreen}
use Rattle.hello_states.specs.Phases.{JoinedScreen}

pub record GreetingParts : Type 0 where
  pub serial : ℕ
  pub accepted : ℕ

pub record AskedParts : Type 0 where
  pub serial : ℕ
  pub asked : AskedScreen

pub record JoinedParts : Type 0 where
  pub serial : ℕ
  pub joined : JoinedScreen

pub record PartingParts : Type 0 where
  pub serial : ℕ
  pub cause : PartCause
  pub moment : ℕ

abbrev pub greeting_phase : GreetingParts → Phase
greeting_phase g = Greeting g.accepted

abbrev pub asked_phase : AskedParts → Phase
asked_phase a = Asked a.asked

abbrev pub joined_phase : JoinedParts → Phase
joined_phase j = Joined j.joined

abbrev pub parting_phase : PartingParts → Phase
parting_phase p = Parting p.cause p.moment
