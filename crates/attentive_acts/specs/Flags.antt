-- What may still be read, written or accepted without a new mark: flags that single acts set and
-- clear.
use Rattle.std.specs.Prelude.{ℕ, Bool, true, false, not, ◌&&◌, ◌||◌, ◌==◌, nat_lt, if◌then◌else◌, List, [], ◌∷◌, ◌++◌, map, filter}
use Rattle.std.specs.List.{fold, list_any}
use Rattle.std.specs.Option.{option_map_or}
use Rattle.hub_acts.specs.declared.act.Act.{Act}
use Rattle.hub_acts.specs.declared.act.Act.TheVariants as act
use Rattle.hub_acts.specs.declared.answers.Waited.TheVariants as waited
use Rattle.hub_acts.specs.declared.answers.AcceptAnswer.TheVariants as accepted
use Rattle.hub_acts.specs.declared.answers.ReadAnswer.TheVariants as read
use Rattle.hub_acts.specs.declared.answers.WriteAnswer.TheVariants as written
use Rattle.hub_acts.specs.declared.marks.Mark.{Mark}
use Rattle.hub_acts.specs.declared.marks.Mark.TheVariants as mark
use Rattle.machine.specs.States.{State}
use Rattle.machine.specs.Screens.{connection, has_untaken}
use Rattle.machine.specs.Queues.{total}
use Rattle.machine.specs.Readings.{reads, accepts}

-- of an open connection
pub record Flag : Type 0 where
  pub serial : ℕ
  pub reads : Bool
  pub writes : Bool

-- of the listener, and of the open connections by rising serial
pub record Flags : Type 0 where
  pub listens : Bool
  pub streams : List Flag

-- at the start a connection may wait
abbrev pub first_flags : Flags
first_flags = record { listens = true; streams = [] }

-- ---- what an act sets and clears

abbrev pub flag_at : ℕ → (Flag → Flag) → Flag → Flag
flag_at c change f = if f.serial == c then change f else f

abbrev pub change_flag : ℕ → (Flag → Flag) → Flags → Flags
change_flag c change fs = record fs { streams = map (flag_at c change) fs.streams }

abbrev pub with_listens : Bool → Flags → Flags
with_listens b fs = record fs { listens = b }

-- a mark of a connection that isn't open changes nothing
abbrev pub with_mark : Flags → Mark → Flags
with_mark fs mark.Accept = with_listens true fs
with_mark fs (mark.Stream c readable writable) =
    change_flag c (λ f. record f { reads = f.reads || readable; writes = f.writes || writable }) fs

abbrev pub read_drained : Flag → Flag
read_drained f = record f { reads = false }

abbrev pub write_drained : Flag → Flag
write_drained f = record f { writes = false }

abbrev pub flags_with : Act → Flags → Flags
flags_with (act.Wait ms waited.Ready marks) fs = fold with_mark fs marks
flags_with (act.Accept (accepted.New c)) fs =
    record fs { streams = fs.streams ++ (record { serial = c; reads = true; writes = false }) ∷ [] }
flags_with (act.Accept accepted.NotNow) fs = with_listens false fs
flags_with (act.Accept accepted.Failed) fs = with_listens false fs
flags_with (act.Read c room read.End bytes) fs = change_flag c read_drained fs
flags_with (act.Read c room read.NotNow bytes) fs = change_flag c read_drained fs
flags_with (act.Read c room read.Failed bytes) fs = change_flag c read_drained fs
flags_with (act.Write c bytes written.NotNow) fs = change_flag c write_drained fs
flags_with (act.Write c bytes written.Failed) fs = change_flag c write_drained fs
flags_with (act.Close c) fs = record fs { streams = filter (λ f. not (f.serial == c)) fs.streams }
flags_with a fs = fs

-- a queue that grew is as good as a mark
abbrev pub flag_grown : State → State → Flag → Flag
flag_grown old new f =
    record f { writes = f.writes || nat_lt (total old.routed f.serial) (total new.routed f.serial) }

abbrev pub flags_after : Act → State → State → Flags → Flags
flags_after a old new fs =
    record (flags_with a fs) { streams = map (flag_grown old new) (flags_with a fs).streams }

-- ---- what is undrained

abbrev pub has_flag : (Flag → Bool) → ℕ → Flags → Bool
has_flag is_set c fs = list_any (λ f. (f.serial == c) && is_set f) fs.streams

-- its flag is set, and it isn't parting
abbrev pub is_readable : Flags → State → ℕ → Bool
is_readable fs s c = has_flag (λ f. f.reads) c fs && reads s c

-- bytes are queued for it that it may still take
abbrev pub has_more : State → ℕ → Bool
has_more s c = option_map_or (has_untaken s) (connection s c) false

-- its flag is set, and it has such bytes
abbrev pub is_writable : Flags → State → ℕ → Bool
is_writable fs s c = has_flag (λ f. f.writes) c fs && has_more s c

-- its flag is set, and quit has not run
abbrev pub is_listening : Flags → State → Bool
is_listening fs s = fs.listens && accepts s

-- something is undrained
abbrev pub is_busy : Flags → State → Bool
is_busy fs s = is_listening fs s
    || list_any (λ f. is_readable fs s f.serial || is_writable fs s f.serial) fs.streams
