-- Which of the machine's connections the server keeps.
use Rattle.std.specs.Prelude.{◌≡◌, ℕ, ◌<◌, true, false, List, [], ◌∷◌, ◌++◌, Option, Some, None}
use Rattle.share_base.specs.declared.clip_id.ClipId.TheVariants.{Clipboard, Selection}
use Rattle.message_codec.specs.declared.messages.Msg.{Msg}
use Rattle.message_reader.specs.declared.role.Role.TheVariants as role
use Rattle.message_reader.specs.Representation.{Represents}
use Rattle.clip_chunks.specs.Assemblies as assemblies
use Rattle.hello_states.specs.Phases.{used_screen}
use Rattle.machine.specs.Targets.{Entry}
use Rattle.machine.specs.Connections.{Connection, is_live}
use Rattle.send_queue.specs.Standing as queues
use Rattle.connection_table.specs.declared.connection.Connection as kept
use Rattle.connection_table.specs.PhaseOf.{phase_of}

-- what is told beside the machine's connections: the entries that were routed, the bytes that came
-- from each and the messages that its reader gave of them, the most bytes of a clipboard, and how
-- many screens there are
pub record Surroundings : Type 0 where
  pub routed : List Entry
  pub received : ℕ → List ℕ
  pub given : ℕ → List Msg
  pub limit : ℕ
  pub count : ℕ

-- one entry more was routed
abbrev pub told : Entry → Surroundings → Surroundings
told e a = record a { routed = a.routed ++ e ∷ [] }

-- a screen that is used is one of so many
abbrev pub IsKnown : ℕ → Option ℕ → Type 0
IsKnown count None = Unit {0}
IsKnown count (Some screen) = screen < count

-- the kept connection is the machine's; the reader of a parting one is never asked again
pub record StandsFor (a : Surroundings) (k : kept.Connection) (c : Connection) : Type 0 where
  pub serial : k.serial ≡ c.serial
  pub phase : phase_of k.phase ≡ c.phase
  pub known : IsKnown a.count (used_screen c.phase)
  pub role : k.reader.role ≡ role.Server
  pub heard : is_live c ≡ true → c.received ≡ a.received c.serial
  pub reader : is_live c ≡ true → Represents k.reader c.received (a.given c.serial)
  pub clipboard : assemblies.StandsFor a.limit Clipboard k.clipboard c.parts
  pub selection : assemblies.StandsFor a.limit Selection k.selection c.parts
  pub queue : queues.Stands k.queue a.routed c.serial
  pub taken : k.queue.taken ≡ c.taken
  pub dropped : k.queue.is_discarded ≡ c.is_dropped
  pub holds : is_live c ≡ true → c.is_dropped ≡ false

-- one by one, with serials that rise above that one
abbrev pub Pairs : (kept.Connection → Connection → Type 0) → ℕ → List kept.Connection
    → List Connection → Type 0
Pairs R low [] [] = Unit {0}
Pairs R low [] (c ∷ cs) = ⊥
Pairs R low (k ∷ ks) [] = ⊥
Pairs R low (k ∷ ks) (c ∷ cs) = (low < c.serial) × R k c × Pairs R c.serial ks cs

abbrev pub AreFor : Surroundings → List kept.Connection → List Connection → Type 0
AreFor a ks cs = Pairs (StandsFor a) 0 ks cs
