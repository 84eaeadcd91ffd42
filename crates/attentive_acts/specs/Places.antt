-- Which act is due: a place in a turn of the loop, and how one place leads to the next.
use Rattle.std.specs.Prelude.{ℕ, ◌-◌, nat_lt, ◌&&◌, if◌then◌else◌, is_some, List, [], ◌∷◌}
use Rattle.hub_acts.specs.declared.act.Act.{Act}
use Rattle.hub_acts.specs.declared.act.Act.TheVariants as act
use Rattle.hub_acts.specs.declared.answers.Waited.TheVariants as waited
use Rattle.hub_acts.specs.declared.answers.AcceptAnswer.TheVariants as accepted
use Rattle.machine.specs.Connections.{serials}
use Rattle.machine.specs.States.{State}
use Rattle.machine.specs.Readings.{closing, is_over}
use Rattle.attentive_acts.specs.Flags.{Flags, is_readable, is_writable, is_listening}

-- the next act, or what comes first of the rest
pub data Place : Type 0 where
  Waits : Place
  Asks : Place  -- for the moment
  Accepts : (left : ℕ) → Place  -- so many times at most
  Reads : (rest : List ℕ) → Place
  Writes : (rest : List ℕ) → Place
  Closes : Place  -- what is to be closed
  Leaves : (rest : List ℕ) → Place  -- the closings of the loop's end

-- at most so many accepts a turn
abbrev pub most_accepts : ℕ
most_accepts = 64

-- ---- the place, once what isn't due is passed by

-- a whole turn was made
abbrev pub at_turn_end : State → Place
at_turn_end s = if is_over s then Leaves [] else Waits

abbrev pub at_closes : State → Place
at_closes s = if is_some (closing s) then Closes else at_turn_end s

abbrev pub at_writes : Flags → State → List ℕ → Place
at_writes fs s [] = at_closes s
at_writes fs s (c ∷ cs) = if is_writable fs s c then Writes (c ∷ cs) else at_writes fs s cs

abbrev pub at_reads : Flags → State → List ℕ → Place
at_reads fs s [] = at_writes fs s (serials s.connections)
at_reads fs s (c ∷ cs) = if is_readable fs s c then Reads (c ∷ cs) else at_reads fs s cs

abbrev pub at_accepts : Flags → State → ℕ → Place
at_accepts fs s left = if is_listening fs s && nat_lt 0 left then Accepts left
    else at_reads fs s (serials s.connections)

-- ---- the place after an act

abbrev pub after_first : List ℕ → List ℕ
after_first [] = []
after_first (c ∷ cs) = cs

-- a wait that is ready begins a turn, and another one ends the run
abbrev pub after_wait : Act → State → Place
after_wait (act.Wait ms waited.Ready marks) s = Asks
after_wait a s = Leaves (serials s.connections)

-- accepts go on where one gave a connection
abbrev pub after_accept : Act → ℕ → Flags → State → Place
after_accept (act.Accept (accepted.New c)) left fs s = at_accepts fs s (left - 1)
after_accept a left fs s = at_reads fs s (serials s.connections)

-- by the flags and the state after the act
abbrev pub place_after : Place → Act → Flags → State → Place
place_after Waits a fs s = after_wait a s
place_after Asks a fs s = at_accepts fs s most_accepts
place_after (Accepts left) a fs s = after_accept a left fs s
place_after (Reads rest) a fs s = at_reads fs s (after_first rest)
place_after (Writes rest) a fs s = at_writes fs s (after_first rest)
place_after Closes a fs s = at_closes s
place_after (Leaves rest) a fs s = Leaves (after_first rest)
