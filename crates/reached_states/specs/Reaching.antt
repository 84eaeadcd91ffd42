-- The states that the machine reaches from its start, by happenings that may come one after
-- another.
use Rattle.std.specs.Prelude.{◌≡◌, ℕ, List, [], ◌∷◌}
use Rattle.screen_config.specs.Configurations.{Configuration}
use Rattle.machine.specs.Scripts.{Script}
use Rattle.machine.specs.States.{State}
use Rattle.machine.specs.Happenings.{Happening, IsAllowed, latest_after}
use Rattle.machine.specs.Acceptance.{start}
use Rattle.machine.specs.Steps.{step, run}
use Rattle.machine.specs.Runs.{AreAllowed}

-- what a server is started on: its configuration, its script, and the moment, in milliseconds
pub record Origin : Type 0 where
  pub config : Configuration
  pub script : Script
  pub now : ℕ

abbrev pub start_of : Origin → State
start_of o = start o.config o.script o.now

-- the greatest serial that was accepted
abbrev pub latest_from : ℕ → List Happening → ℕ
latest_from latest [] = latest
latest_from latest (h ∷ hs) = latest_from (latest_after latest h) hs

pub record ReachedBy (o : Origin) (hs : List Happening) (latest : ℕ) (s : State) : Type 0 where
  pub allowed : AreAllowed 0 (start_of o) hs
  pub state : s ≡ run hs (start_of o)
  pub latest_is : latest ≡ latest_from 0 hs

pub record Reached (o : Origin) (latest : ℕ) (s : State) : Type 0 where
  pub happenings : List Happening
  pub by : ReachedBy o happenings latest s

-- a happening that may come leads from a reached state to a reached one
abbrev pub GoesOn : Type 0
GoesOn =
    (o : Origin) (latest : ℕ) (s : State) (h : Happening) → Reached o latest s
    → IsAllowed latest s h
    → Reached o (latest_after latest h) (step s h)
