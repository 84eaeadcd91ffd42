-- The law that the open connections of the machine, and those that have flags, are the open ones of
-- the hub.
use Rattle.std.specs.Prelude.{◌≡◌, ℕ, List, map}
use Rattle.hub_acts.specs.declared.act.Act.{Act}
use Rattle.hub_acts.specs.Counting.{open_with}
use Rattle.machine.specs.Connections.{serials}
use Rattle.attentive_acts.specs.Flags.{Flag}
use Rattle.attentive_acts.specs.Judging.{Judge, judge_after}

-- these are open, by their serials
pub record AreOpen (those : List ℕ) (j : Judge) : Type 0 where
  pub connections : serials j.state.connections ≡ those
  pub flags : map (λ (f : Flag). f.serial) j.flags.streams ≡ those

-- an act opens and closes the same for all three, whether it was due or not
abbrev pub OpenTogether : Type 0
OpenTogether = (those : List ℕ) (j : Judge) (a : Act) → AreOpen those j
    → AreOpen (open_with a those) (judge_after j a)
