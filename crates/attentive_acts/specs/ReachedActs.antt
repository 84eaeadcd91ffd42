-- The law that attentive acts lead through states that the machine reaches.
use Rattle.std.specs.Prelude.{◌≡◌, List}
use Rattle.hub_acts.specs.declared.act.Act.{Act}
use Rattle.machine.specs.Connections.{serials}
use Rattle.machine.specs.States.{State}
use Rattle.reached_states.specs.Reaching.{Origin, start_of, Reached}
use Rattle.attentive_acts.specs.Places.{Place, Leaves}
use Rattle.attentive_acts.specs.Judging.{Judge, Follows, judged, first_judge, leaving}

-- where the run ends, all connections that are open leave
abbrev pub LeaveAll : State → Place → Type 0
LeaveAll s (Leaves rest) = rest ≡ serials s.connections
LeaveAll s place = Unit {0}

pub record IsReached (o : Origin) (j : Judge) : Type 0 where
  pub state : Reached o j.latest j.state
  pub leaves : LeaveAll j.state j.place

-- the acts of a run, and the closings at its end
pub record RunIsReached (o : Origin) (acts : List Act) : Type 0 where
  pub run : IsReached o (judged (first_judge (start_of o)) acts)
  pub closings : (closings : List Act)
      → Follows (leaving (judged (first_judge (start_of o)) acts)) closings
      → IsReached o (judged (leaving (judged (first_judge (start_of o)) acts)) closings)

abbrev pub AttentiveIsReached : Type 0
AttentiveIsReached =
    (o : Origin) (acts : List Act) → Follows (first_judge (start_of o)) acts → RunIsReached o acts
