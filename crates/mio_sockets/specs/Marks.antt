-- What the system's events mean: the marks of a hub's wait, and what a link's stream is ready for.
use Rattle.std.specs.Prelude.{Bool, ◌||◌, ◌==◌, if◌then◌else◌}
use Rattle.mio.specs.declared.event.event.Event.{Event}
use Rattle.mio.specs.Event.{event_token, is_readable, is_writable, is_error, is_read_closed, is_write_closed}
use Rattle.hub_acts.specs.declared.marks.Mark.{Mark}
use Rattle.hub_acts.specs.declared.marks.Mark.TheVariants as mark

-- a read has something to tell: bytes, the end or a failure
abbrev pub may_read : Event → Bool
may_read e = is_readable e || is_read_closed e || is_error e

-- a write has something to tell: that there is room, or a failure
abbrev pub may_write : Event → Bool
may_write e = is_writable e || is_write_closed e || is_error e

-- the listener is registered under 0, and each connection under its serial
abbrev pub mark_of : Event → Mark
mark_of e =
    if (event_token e).0 == 0
    then mark.Accept
    else mark.Stream (event_token e).0 (may_read e) (may_write e)
