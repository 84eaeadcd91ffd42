-- What may still be read or written without a new mark: flags that single acts set and clear.
use Rattle.std.specs.Prelude.{Bool, true, false, not, ◌&&◌, ◌||◌, nat_lt, is_some, length}
use Rattle.hub_acts.specs.declared.act.Act.{Act}
use Rattle.hub_acts.specs.declared.act.Act.TheVariants as act
use Rattle.hub_acts.specs.declared.answers.LinkWaited.TheVariants as waited
use Rattle.hub_acts.specs.declared.answers.ReadAnswer.TheVariants as read
use Rattle.hub_acts.specs.declared.answers.WriteAnswer.TheVariants as written
use Rattle.client_core.specs.Clients.{Client}
use Rattle.client_core.specs.Happenings.{sent, untaken}

pub record Flags : Type 0 where
  pub reads : Bool
  pub writes : Bool

-- at the start there may be something to read
abbrev pub first_flags : Flags
first_flags = record { reads = true; writes = false }

-- ---- what an act sets and clears

abbrev pub with_marks : (readable writable : Bool) → Flags → Flags
with_marks readable writable fs =
    record { reads = fs.reads || readable; writes = fs.writes || writable }

abbrev pub read_drained : Flags → Flags
read_drained fs = record fs { reads = false }

abbrev pub write_drained : Flags → Flags
write_drained fs = record fs { writes = false }

abbrev pub flags_with : Act → Flags → Flags
flags_with (act.LinkWait ms (waited.Ready readable writable)) fs = with_marks readable writable fs
flags_with (act.LinkRead room read.End bytes) fs = read_drained fs
flags_with (act.LinkRead room read.NotNow bytes) fs = read_drained fs
flags_with (act.LinkRead room read.Failed bytes) fs = read_drained fs
flags_with (act.LinkWrite bytes written.NotNow) fs = write_drained fs
flags_with (act.LinkWrite bytes written.Failed) fs = write_drained fs
flags_with a fs = fs

-- more that the client sends is as good as a mark
abbrev pub sends_more : Client → Client → Bool
sends_more old new = nat_lt (length (sent old)) (length (sent new))

abbrev pub flags_after : Act → Client → Client → Flags → Flags
flags_after a old new fs =
    record (flags_with a fs) { writes = (flags_with a fs).writes || sends_more old new }

-- ---- what is undrained

abbrev pub is_going : Client → Bool
is_going c = not (is_some c.done)

-- its flag is set, and the client goes on
abbrev pub is_readable : Flags → Client → Bool
is_readable fs c = fs.reads && is_going c

abbrev pub has_untaken : Client → Bool
has_untaken c = nat_lt 0 (length (untaken c))

-- its flag is set, and bytes are queued
abbrev pub is_writable : Flags → Client → Bool
is_writable fs c = fs.writes && has_untaken c

-- something is undrained
abbrev pub is_busy : Flags → Client → Bool
is_busy fs c = is_readable fs c || is_writable fs c
