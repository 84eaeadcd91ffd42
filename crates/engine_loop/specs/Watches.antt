-- What the loop watches, as flags: what is queued since is as good as a mark.
use Rattle.std.specs.Prelude.{◌≡◌, ℕ, Bool, true, false, not, ◌&&◌, ◌||◌, ◌==◌, ◌≤◌, nat_lt, if◌then◌else◌, List, [], ◌∷◌, ◌++◌, map, filter}
use Rattle.attentive_acts.specs.Flags.{Flag, Flags}
use Rattle.engine_loop.specs.declared.watch.Stream.{Stream}
use Rattle.engine_loop.specs.declared.watch.Change.{Change}
use Rattle.engine_loop.specs.declared.watch.Change.TheVariants.{Marked, ReadsDrained, WritesDrained}
use Rattle.engine_loop.specs.declared.watch.Watch.{Watch}

-- ---- as flags, where so many bytes were queued in all, by serial

abbrev pub flag_of : (ℕ → ℕ) → Stream → Flag
flag_of totals t =
    record {
      serial = t.serial;
      reads = t.reads;
      writes = t.writes || nat_lt t.seen (totals t.serial);
    }

abbrev pub flags_of : (ℕ → ℕ) → Watch → Flags
flags_of totals w = record { listens = w.listens; streams = map (flag_of totals) w.streams.items }

abbrev pub serial_of : Stream → ℕ
serial_of t = t.serial

-- the open connections
abbrev pub serials_in : Watch → List ℕ
serials_in w = map serial_of w.streams.items

-- ---- changes

abbrev pub changed : Change → Stream → Stream
changed (Marked readable writable) t =
    record t { reads = t.reads || readable; writes = t.writes || writable }
changed ReadsDrained t = record t { reads = false }
changed (WritesDrained seen) t = record t { writes = false; seen = seen }

abbrev pub changed_one : ℕ → Change → Stream → Stream
changed_one serial change t = if t.serial == serial then changed change t else t

abbrev pub changed_all : ℕ → Change → List Stream → List Stream
changed_all serial change streams = map (changed_one serial change) streams

-- one that was just accepted
abbrev pub opened : ℕ → Stream
opened serial = record { serial = serial; reads = true; writes = false; seen = 0 }

abbrev pub without : ℕ → List Stream → List Stream
without serial streams = filter (λ (t : Stream). not (t.serial == serial)) streams

-- no more was seen than was queued by then
abbrev pub AreSeen : (ℕ → ℕ) → List Stream → Type 0
AreSeen totals [] = Unit {0}
AreSeen totals (t ∷ ts) = (t.seen ≤ totals t.serial) × AreSeen totals ts

-- ---- what is undrained

abbrev pub reads_as : ℕ → Stream → Bool
reads_as serial t = (t.serial == serial) && t.reads

abbrev pub writes_as : ℕ → ℕ → Stream → Bool
writes_as serial total t = (t.serial == serial) && (t.writes || nat_lt t.seen total)

pub record Opens (old new : Watch) (serial : ℕ) : Type 0 where
  pub streams : new.streams.items ≡ old.streams.items ++ opened serial ∷ []
  pub listens : new.listens ≡ old.listens

-- the flags are set so, whatever was queued, and the same connections are open
pub record Sets (old new : Watch) (change : Flags → Flags) : Type 0 where
  pub flags : (totals : ℕ → ℕ) → flags_of totals new ≡ change (flags_of totals old)
  pub serials : serials_in new ≡ serials_in old
  pub seen : (totals : ℕ → ℕ) → AreSeen totals old.streams.items → AreSeen totals new.streams.items
