-- What a client core keeps of its client, and what its calls do to it.
use Rattle.std.specs.Prelude.{◌≡◌, ℕ, ◌≤◌, List, ◌++◌, length, drop, Option, Some, None, Result, Ok, Err}
use Rattle.std.specs.List.{flat_map}
use Rattle.share_base.specs.declared.out_of_memory.OutOfMemory.{OutOfMemory}
use Rattle.message_codec.specs.declared.messages.Msg.{Msg}
use Rattle.message_codec.specs.Verdicts.{Verdict}
use Rattle.message_reader.specs.declared.role.Role.{Role}
use Rattle.message_reader.specs.Roles.{reader_of}
use Rattle.message_reader.specs.ReaderParts.{ReaderParts}
use Rattle.message_reader.specs.Representation.{IsOpen}
use Rattle.message_reader.specs.Steps.{partial_at}
use Rattle.message_reader.specs.Endings.{IsFront}
use Rattle.held_inputs.specs.Line.{line_of}
use Rattle.held_inputs.specs.Balanced.{Balanced, ClearAtLeaves}
use Rattle.client_talk.specs.Talks.{Talk, told}
use Rattle.client_talk.specs.Scripts.{run_script}
use Rattle.client_core.specs.declared.client_end.ClientEnd.{ClientEnd}
use Rattle.client_core.specs.declared.client_end.ClientEnd.TheVariants as end
use Rattle.client_core.specs.declared.client.ClientCore.{ClientCore}
use Rattle.client_core.specs.declared.hearer.Hearer.{Hearer}
use Rattle.client_core.specs.Hearing.{display, all_lines}
use Rattle.client_core.specs.Showing.{Shows}
use Rattle.client_core.specs.Clients.{Client, listens, hear, hear_all, fed, inbox_with, got}
use Rattle.client_core.specs.Happenings.{waited, end_of_wait}

-- the reader in that role gave all messages of the stream, and goes on
pub record Reads (r : ReaderParts) (role : Role) (stream : List ℕ) (messages : List Msg) : Type 0
  where
    pub verdict : Verdict (reader_of role) stream
    pub all : verdict.messages ≡ messages
    pub open_at : IsOpen r stream messages

-- its screen is the client's, of whose lines those in front were cleared, and so is its
-- conversation
pub record Hears (h : Hearer) (c : Client) (front : List ℕ) : Type 0 where
  pub shows : Shows h.printer (display c.shown) front
  pub talk : h.talk ≡ c.talk

-- the parts of a core that stands for the client
pub record Kept (r : ReaderParts) (h : Hearer) (done : Option ClientEnd) (c : Client)
    (front : List ℕ) : Type 0 where
  pub role : r.role ≡ c.role
  pub hears : Hears h c front
  pub done_is : done ≡ c.done
  pub reads : c.done ≡ None → Reads r c.role c.received c.heard
  pub total : r.total ≤ length c.received

-- the core stands for the client, of whose lines those in front were cleared
abbrev pub Stands : ClientCore → Client → List ℕ → Type 0
Stands core c front = Kept core.reader core.hearer core.done c front

-- whatever client it stood for became another one
abbrev pub Follows : ClientCore → ClientCore → (Client → Client) → Type 0
Follows old new next =
    (c : Client) (front : List ℕ) → Stands old c front → Stands new (next c) front

-- ---- a message

-- the hearer's client heard one message, and is done so by then; out of memory, it did not hear it
abbrev pub Heeds : Msg → Hearer → Hearer → Result (Option ClientEnd) OutOfMemory → Type 0
Heeds m old new (Ok done) = (c : Client) (front : List ℕ) → c.done ≡ None → Hears old c front
    → Hears new (hear c m) front × (done ≡ (hear c m).done)
Heeds m old new (Err memory) = (c : Client) (front : List ℕ) → Hears old c front → Hears new c front

-- a message that does not end its client was applied; out of memory, it was not
abbrev pub Applies : {A : Type 0} → Msg → Hearer → Hearer → Result A OutOfMemory → Type 0
Applies m old new (Ok unit) =
    (c : Client) (front : List ℕ) → Hears old c front → Hears new (listens m c) front
Applies m old new (Err memory) =
    (c : Client) (front : List ℕ) → Hears old c front → Hears new c front

-- ---- a piece

abbrev pub out_of_memory : Client → Client
out_of_memory c = record c { done = Some end.OutOfMemory }

-- it ran out of memory after some of the messages that the piece adds, none of which ended it
pub record Breaks (r : ReaderParts) (h : Hearer) (done : Option ClientEnd) (c : Client)
    (piece : List ℕ) (front : List ℕ) : Type 0 where
  pub messages : List Msg
  pub first : IsFront messages (drop (length c.heard) (inbox_with piece c).messages)
  pub goes : (hear_all (fed piece c) messages).done ≡ None
  pub kept : Kept r h done (out_of_memory (hear_all (fed piece c) messages)) front

-- parts that stood for a client that went on took a piece
abbrev pub Takes : ReaderParts → ReaderParts → Hearer → Hearer
    → Result (Option ClientEnd) OutOfMemory → List ℕ → Type 0
Takes r r' h h' (Ok done) piece =
    (c : Client) (front : List ℕ) → Kept r h None c front → Kept r' h' done (got piece c) front
Takes r r' h h' (Err memory) piece = (c : Client) (front : List ℕ) → Kept r h None c front
    → Breaks r' h' (Some end.OutOfMemory) c piece front

-- the core got a piece
abbrev pub Gets : {A : Type 0} → ClientCore → ClientCore → Result A OutOfMemory → List ℕ → Type 0
Gets old new (Ok unit) piece = Follows old new (got piece)
Gets old new (Err memory) piece = (c : Client) (front : List ℕ) → Stands old c front
    → Breaks new.reader new.hearer new.done c piece front

-- ---- a moment

-- it ran out of memory after some of the script's lines that were to run
pub record StopsRunning (new : ClientCore) (c : Client) (moment : ℕ) (before : Talk)
    (front : List ℕ) : Type 0 where
  pub talk : Talk
  pub runs : run_script talk ≡ run_script (told moment before)
  pub stands : Stands new (record c { talk = Some talk; done = Some end.OutOfMemory }) front

abbrev pub StopsAt : ClientCore → ClientCore → ℕ → Type 0
StopsAt old new moment = (c : Client) (front : List ℕ) (before : Talk) → c.talk ≡ Some before
    → Stands old c front → StopsRunning new c moment before front

-- a conversation that went on passed to a moment, and its client is done so by then; out of memory,
-- some of the script's lines ran
abbrev pub Passes : ℕ → Option Talk → Option Talk → Result (Option ClientEnd) OutOfMemory → Type 0
Passes moment None new (Ok done) = (new ≡ None) × (done ≡ None)
Passes moment (Some t) new (Ok done) =
    (new ≡ Some (waited (told moment t))) × (done ≡ end_of_wait (told moment t))
Passes moment None new (Err memory) = ⊥
Passes moment (Some t) new (Err memory) =
    (after : Talk) × (new ≡ Some after) × (run_script after ≡ run_script (told moment t))

-- ---- what it reads off

-- a frame is there in part, as the verdict has it
abbrev pub IsPartial : ClientCore → Option ℕ → Type 0
IsPartial core found = (c : Client) (front : List ℕ) → Stands core c front
    → (v : Verdict (reader_of c.role) c.received) → found ≡ partial_at v

-- the lines that were printed and not cleared
abbrev pub lines_in : ClientCore → List ℕ
lines_in core = core.hearer.printer.lines.items

-- the lines were cleared
abbrev pub ClearsLines : ClientCore → ClientCore → Type 0
ClearsLines old new =
    (c : Client) (front : List ℕ) → Stands old c front → Stands new c (front ++ lines_in old)

-- ---- the end

-- the bytes are the lines of a client that ended after its screen got these messages: every key and
-- every mouse button went up, one up for each down, and nothing was down where the cursor left
pub record Released (messages : List Msg) (bytes : List ℕ) : Type 0 where
  pub printed : bytes ≡ flat_map line_of (all_lines messages)
  pub balanced : Balanced (all_lines messages)
  pub leaves : ClearAtLeaves (all_lines messages)

-- the client's lines with these bytes after them are released, whatever happened to it
abbrev pub EndsReleased : ClientCore → List ℕ → Type 0
EndsReleased core bytes = (c : Client) (front : List ℕ) → Stands core c front
    → Released c.shown ((front ++ lines_in core) ++ bytes)
