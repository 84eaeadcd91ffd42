-- What a call does to one connection.
use Rattle.std.specs.Prelude.{◌≡◌, ℕ, false, ◌||◌, List, [], None}
use Rattle.message_codec.specs.declared.messages.Msg.{Msg}
use Rattle.message_reader.specs.declared.role.Role.TheVariants as role
use Rattle.message_reader.specs.Representation.{Represents}
use Rattle.hello_states.specs.declared.part_cause.PartCause.{PartCause}
use Rattle.hello_states.specs.Causes.{drops_queue}
use Rattle.hello_states.specs.Handshake.{greeting_at}
use Rattle.hello_states.specs.Phases as phases
use Rattle.machine.specs.Targets.{Entry}
use Rattle.send_queue.specs.declared.pushed.Pushed.{Pushed}
use Rattle.send_queue.specs.QueueParts.{QueueParts}
use Rattle.send_queue.specs.Standing as queues
use Rattle.send_queue.specs.Calls as queue_calls
use Rattle.connection_table.specs.declared.connection.Connection.{Connection}
use Rattle.connection_table.specs.declared.reading.Reading.{Reading}
use Rattle.connection_table.specs.PhaseOf.{phase_of, parted_phase}
use Rattle.connection_table.specs.Readings.{Brings}

-- it was just accepted
pub record Begins (c : Connection) (serial now limit : ℕ) : Type 0 where
  pub serial_is : c.serial ≡ serial
  pub phase : phase_of c.phase ≡ greeting_at now
  pub reader : Represents c.reader [] []
  pub role : c.reader.role ≡ role.Server
  pub total : c.reader.total ≡ 0
  pub clipboard : c.clipboard ≡ record { limit = limit; run = None }
  pub selection : c.selection ≡ record { limit = limit; run = None }
  pub queue : queues.Begins c.queue
  pub taken : c.queue.taken ≡ 0
  pub holds : c.queue.is_discarded ≡ false

-- a piece of its bytes was read
pub record Reads (piece : List ℕ) (reading : Reading) (old new : Connection) : Type 0 where
  pub brings : Brings piece reading old.reader new.reader
  pub rest : new ≡ record old { reader = new.reader }

-- a message was queued, or left out
pub record Sends (m : Msg) (old new : Connection) : Type 0 where
  pub answer : Pushed
  pub pushes : queue_calls.Pushes old.queue new.queue m answer
  pub rest : new ≡ record old { queue = new.queue }

-- the queue stands for what it stood for
abbrev pub StaysQueue : QueueParts → QueueParts → Type 0
StaysQueue old new = (routed : List Entry) (serial : ℕ) → queues.Stands old routed serial
    → queues.Stands new routed serial

-- it parts for that cause, and where the cause says so, what is queued is dropped
pub record Parts (cause : PartCause) (now : ℕ) (old new : Connection) : Type 0 where
  pub phase : phase_of new.phase ≡ parted_phase cause now (phase_of old.phase)
  pub queue : StaysQueue old.queue new.queue
  pub taken : new.queue.taken ≡ old.queue.taken
  pub discarded : new.queue.is_discarded ≡ (drops_queue cause || old.queue.is_discarded)
  pub rest : new ≡ record old { phase = new.phase; queue = new.queue }

-- it comes into the phase that follows
pub record Advances (next : phases.Phase → phases.Phase) (old new : Connection) : Type 0 where
  pub phase : phase_of new.phase ≡ next (phase_of old.phase)
  pub rest : new ≡ record old { phase = new.phase }

-- what is queued and not taken is dropped
pub record Drops (old new : Connection) : Type 0 where
  pub discards : queue_calls.Discards old.queue new.queue
  pub rest : new ≡ record old { queue = new.queue }

-- it took more of the bytes
pub record Takes (count : ℕ) (old new : Connection) : Type 0 where
  pub takes : queue_calls.Takes old.queue new.queue count
  pub rest : new ≡ record old { queue = new.queue }
