-- What the core of `show` stands for.
use Rattle.std.specs.Prelude.{◌≡◌, ℕ, ◌≤◌, List, ◌++◌, length, Option, Some, None, Result, Ok, Err}
use Rattle.std.specs.Option.{option_map}
use Rattle.std.proofs.Common.{subst, ap, sym}
use Rattle.share_base.specs.declared.out_of_memory.OutOfMemory.{OutOfMemory}
use Rattle.message_codec.specs.declared.messages.End.{End}
use Rattle.message_codec.specs.declared.messages.Msg.{Msg}
use Rattle.message_codec.specs.Streams.{Reader, plain}
use Rattle.message_reader.specs.declared.reader.BadFrame.{BadFrame}
use Rattle.message_reader.specs.declared.role.Role.TheVariants as role
use Rattle.message_reader.specs.Roles.{reader_of}
use Rattle.message_reader.specs.ReaderParts.{ReaderParts}
use Rattle.message_reader.specs.Representation.{IsOpen}
use Rattle.share_commands.specs.declared.status.Status.{Status}
use Rattle.share_commands.specs.declared.status.Status.TheVariants as status
use Rattle.share_commands.specs.declared.show_core.ShowCore.{ShowCore}
use Rattle.share_commands.specs.Ways.{Way, showing}
use Rattle.share_commands.specs.Cores.{Prints, Keeps}

-- these messages of the stream were shown, and these lines of them were taken
pub record Lists (from : End) (r : ReaderParts) (lines : List ℕ) (done : Option Status)
    (stream : List ℕ) (messages : List Msg) (taken : List ℕ) : Type 0 where
  pub prints : Prints (showing from) (reader_of r.role) lines done stream messages taken
  pub open_at : done ≡ None → IsOpen r stream prints.verdict.messages
  pub total_is : r.total ≤ length stream

-- the core stands for them, on its way
pub record Shown (core : ShowCore) (w : Way) (stream : List ℕ) (messages : List Msg)
    (taken : List ℕ) : Type 0 where
  pub role_is : core.reader.role ≡ role.Observer core.from
  pub way_is : w ≡ showing core.from
  pub lists : Lists core.from core.reader core.lines core.done stream messages taken

-- how the command has ended after an answer: at a bad frame, or out of memory
abbrev pub end_after : Result (Option BadFrame) OutOfMemory → Option Status
end_after (Ok bad) = option_map (λ (b : BadFrame). status.BadFrames b.place b.reason) bad
end_after (Err memory) = Some status.OutOfMemory

-- the messages of a piece were shown
pub record TakesPiece (r r' : ReaderParts) (lines lines' : List ℕ)
    (answer : Result (Option BadFrame) OutOfMemory) (piece : List ℕ) : Type 0 where
  pub role_is : r'.role ≡ r.role
  pub shows : (from : End) (stream : List ℕ) (messages : List Msg) (taken : List ℕ)
      → Lists from r lines None stream messages taken
      → (more : List Msg)
      × Lists from r' lines' (end_after answer) (stream ++ piece) (messages ++ more) taken

pub shown_keeps : (core : ShowCore) (w : Way) (stream : List ℕ) (messages : List Msg)
    (taken : List ℕ)
    → Shown core w stream messages taken
    → Keeps w core.lines core.done core.reader.total stream messages taken
shown_keeps core w stream messages taken k =
    let prints : Prints (showing core.from) (plain core.from) core.lines core.done stream messages
    taken =
    subst (λ (r : Reader). Prints (showing core.from) r core.lines core.done stream messages taken)
    (ap reader_of k.role_is) k.lists.prints in
    let keeps : Keeps (showing core.from) core.lines core.done core.reader.total stream messages
    taken = record { prints = prints; total_is = k.lists.total_is } in
    subst (λ (v : Way). Keeps v core.lines core.done core.reader.total stream messages taken)
    (sym k.way_is) keeps
