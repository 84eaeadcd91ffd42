-- A keep-alive that is lent for change.
use Rattle.std.specs.Borrow.{Fml, MutBor, Lends}
use Rattle.keepalive_clock.specs.declared.alive.Alive.{Alive}
use Rattle.keepalive_clock.specs.contracts.alive.Alive.{the_row as alive_row}
use Rattle.hello_states.specs.declared.joined.Joined.{Joined}
use Rattle.hello_states.specs.contracts.joined.Joined.{the_row as joined_row}
use Rattle.hello_states.specs.TypedPhases.{JoinedParts}

-- the connection with another keep-alive
abbrev pub with_alive : JoinedParts → Alive → JoinedParts
with_alive j alive = record j { joined = record j.joined { alive = alive } }

-- the connection ends with the keep-alive that was left behind the loan
abbrev pub LendsAlive : MutBor Joined → MutBor Alive → Fml
LendsAlive j alive = Lends joined_row alive_row j alive (with_alive j.now)
