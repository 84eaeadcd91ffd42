-- Which act is due: a place in a turn of the client's loop, and how one place leads to the next.
use Rattle.std.specs.Prelude.{if◌then◌else◌, Option, Some, None}
use Rattle.hub_acts.specs.declared.act.Act.{Act}
use Rattle.hub_acts.specs.declared.act.Act.TheVariants as act
use Rattle.hub_acts.specs.declared.answers.LinkWaited.TheVariants as waited
use Rattle.client_core.specs.declared.client_end.ClientEnd.{ClientEnd}
use Rattle.client_core.specs.Clients.{Client}
use Rattle.attentive_links.specs.Flags.{Flags, is_readable, is_writable}

-- the next act
pub data Place : Type 0 where
  Waits : Place
  Asks : Place  -- for the moment
  Reads : Place
  Writes : Place
  Stops : Place  -- nothing more is due: the turns are over

-- ---- the place, once what isn't due is passed by

abbrev pub at_writes : Flags → Client → Place
at_writes fs c = if is_writable fs c then Writes else Waits

abbrev pub at_reads : Flags → Client → Place
at_reads fs c = if is_readable fs c then Reads else at_writes fs c

-- ---- the place after an act

-- a wait that is ready begins a turn, and another one ends them
abbrev pub after_wait : Act → Place
after_wait (act.LinkWait ms (waited.Ready readable writable)) = Asks
after_wait a = Stops

-- the client has an end, and no further act is due; or it goes on
abbrev pub unless_done : Option ClientEnd → Place → Place
unless_done (Some e) place = Stops
unless_done None place = place

-- by the flags and the client after the act
abbrev pub place_after : Place → Act → Flags → Client → Place
place_after Waits a fs c = after_wait a
place_after Asks a fs c = unless_done c.done (at_reads fs c)
place_after Reads a fs c = unless_done c.done (at_writes fs c)
place_after Writes a fs c = unless_done c.done Waits
place_after Stops a fs c = Stops
