-- What the calls of a queue do to the entries that it represents.
use Rattle.std.specs.Prelude.{◌≡◌, ℕ, ◌+◌, ◌-◌, Bool, true, false, not, ◌&&◌, nat_le, List, [], ◌∷◌, ◌++◌, drop}
use Rattle.message_codec.specs.declared.messages.Msg.{Msg}
use Rattle.machine.specs.Targets.{Client, Entry, Origin}
use Rattle.machine.specs.Queues.{most_untaken}
use Rattle.send_queue.specs.declared.pushed.Pushed.{Pushed}
use Rattle.send_queue.specs.declared.pushed.Pushed.TheVariants as pushed
use Rattle.send_queue.specs.QueueParts.{QueueParts}
use Rattle.send_queue.specs.Standing.{Stands}

-- a frame of that many bytes has room, and none was left out
abbrev pub has_room : QueueParts → ℕ → Bool
has_room q size = not q.is_slow && nat_le ((q.total + size) - q.taken) most_untaken

-- whether a frame was left out by then
abbrev pub is_slow_after : Pushed → Bool
is_slow_after pushed.Queued = false
is_slow_after pushed.LeftOut = true

-- the message is told a connection that has taken that many bytes
abbrev pub entry_of : Origin → ℕ → Msg → ℕ → Entry
entry_of origin serial m taken = record {
  origin = origin;
  target = Client serial;
  message = m;
  taken = taken;
}

-- one entry more was routed, whatever it came from
pub record Pushes (old new : QueueParts) (m : Msg) (answer : Pushed) : Type 0 where
  pub stands : (routed : List Entry) (serial : ℕ) (origin : Origin)
      → Stands old routed serial
      → Stands new (routed ++ entry_of origin serial m old.taken ∷ []) serial
  pub is_slow : new.is_slow ≡ is_slow_after answer
  pub taken : new.taken ≡ old.taken
  pub is_discarded : new.is_discarded ≡ old.is_discarded

-- more bytes were taken, from the front of the untaken ones
pub record Takes (old new : QueueParts) (count : ℕ) : Type 0 where
  pub stands : (routed : List Entry) (serial : ℕ)
      → Stands old routed serial → Stands new routed serial
  pub untaken : new.untaken ≡ drop count old.untaken
  pub taken : new.taken ≡ old.taken + count
  pub is_discarded : new.is_discarded ≡ old.is_discarded

-- what was untaken was dropped
pub record Discards (old new : QueueParts) : Type 0 where
  pub stands : (routed : List Entry) (serial : ℕ)
      → Stands old routed serial → Stands new routed serial
  pub untaken : new.untaken ≡ []
  pub taken : new.taken ≡ old.taken
  pub is_discarded : new.is_discarded ≡ true
