-- A client that injects, in terms of the verdict on its stream.
use Rattle.std.specs.Prelude.{◌≡◌, ℕ, List, [], ◌++◌, Option, None}
use Rattle.message_codec.specs.declared.messages.Msg.{Msg}
use Rattle.message_codec.specs.Verdicts.{Verdict}
use Rattle.message_reader.specs.declared.role.Role.{Role}
use Rattle.message_reader.specs.Roles.{reader_of}
use Rattle.client_core.specs.declared.client_end.ClientEnd.{ClientEnd}
use Rattle.client_core.specs.declared.client.ClientCore.{ClientCore}
use Rattle.client_core.specs.Ends.{IsHeard}
use Rattle.client_core.specs.Clients.{Client}
use Rattle.client_core.specs.Kept.{Stands}

-- one that got this stream, and heard these messages of it
abbrev pub injected : Role → Option ClientEnd → List ℕ → List Msg → Client
injected role done stream messages =
    record {
      role = role;
      received = stream;
      heard = messages;
      shown = messages;
      talk = None;
      taken = [];
      done = done;
    }

-- the core stands for one that has ended as the verdict on its stream says, after these messages
pub record Injects (core : ClientCore) (stream : List ℕ) (messages : List Msg) (front : List ℕ)
    : Type 0 where
  pub verdict : Verdict (reader_of core.reader.role) stream
  pub heard : IsHeard core.done verdict messages
  pub stands : Stands core (injected core.reader.role core.done stream messages) front

-- a piece came, and it heard more messages
pub record Grows (core new : ClientCore) (piece : List ℕ) : Type 0 where
  pub role : new.reader.role ≡ core.reader.role
  pub hears : (stream : List ℕ) (messages : List Msg) (front : List ℕ)
      → Injects core stream messages front → (more : List Msg)
      × Injects new (stream ++ piece) (messages ++ more) front
