-- The law of both ends: what a client makes of whatever a server queued for it.
use Rattle.std.specs.Prelude.{◌≡◌, ℕ, false, List, ◌++◌, map, filter, None}
use Rattle.std.specs.List.{list_any, AllByRecursion}
use Rattle.message_codec.specs.declared.messages.Msg.{Msg}
use Rattle.message_codec.specs.Inboxes.{inbox}
use Rattle.message_reader.specs.declared.role.Role.{Role}
use Rattle.message_reader.specs.Roles.{reader_of}
use Rattle.message_reader.specs.Endings.{IsFront}
use Rattle.clip_chunks.specs.OpenRuns.{wholes_among}
use Rattle.held_inputs.specs.declared.line.Line.{Line}
use Rattle.script_screen.specs.declared.client_script.ClientLine.{ClientLine}
use Rattle.client_core.specs.declared.clipboards.TheConstants.{CLIP_LIMIT}
use Rattle.client_core.specs.Clipboards.{whole_line, tells_bytes}
use Rattle.client_core.specs.Clients.{Client}
use Rattle.client_core.specs.Happenings.{Happening, joining, lines, run, TellsWholes}
use Rattle.machine.specs.States.{State}
use Rattle.machine.specs.Queues.{queued_messages, queue}
use Rattle.machine.specs.Happenings as machine
use Rattle.screen_config.specs.Sound.{IsSound}
use Rattle.reached_states.specs.Reaching.{Origin, ReachedBy}
use Rattle.both_ends.specs.Feeding.{fed_by, is_bad_peer, blames}
use Rattle.both_ends.specs.Numbers.{HasTypes, BringsBytes}
use Rattle.both_ends.specs.Inputs.{inputs, mapped_screen}

-- what the bytes of a server's stream come to, as a client in that role reads them
abbrev pub messages_read : Role → List ℕ → List Msg
messages_read r bytes = (inbox (reader_of r) bytes).messages

-- a client in that role that was fed these bytes of a queue of those messages
pub record Understands (r : Role) (queued : List Msg) (fed : List ℕ) (c : Client) : Type 0 where
  -- nothing in them is bad, and it doesn't end as if something were
  pub good : (inbox (reader_of r) fed).bad ≡ None
  pub fine : is_bad_peer c.done ≡ false
  -- it heard messages that were queued: all that came as long as it goes on, else the first of them
  pub of_queue : IsFront (messages_read r fed) queued
  pub heard : IsFront c.heard (messages_read r fed)
  pub all : c.done ≡ None → c.heard ≡ messages_read r fed
  -- its keys and buttons are those of a screen that gets these messages, options and all
  pub keys : inputs (lines c) ≡ inputs (mapped_screen c.heard).lines
  -- its clipboards are the whole ones among them, of at most 4,194,304 bytes each, and so the first
  -- of those that were queued
  pub wholes : TellsWholes c
  pub first_wholes :
      (more : List Line)
      × (map whole_line (wholes_among CLIP_LIMIT queued) ≡ filter tells_bytes (lines c) ++ more)

-- Any front of the queue of a reached state, in any pieces, at any moments and takings, to that
-- client: where the server has a configuration that was read, a script whose numbers are those of its
-- types, and pieces of bytes, and where nobody else says that the server is bad
abbrev pub IsUnderstoodBy : Client → Type 0
IsUnderstoodBy first =
    (o : Origin) (before : List machine.Happening) (latest : ℕ) (s : State) (serial : ℕ)
    → ReachedBy o before latest s → IsSound o.config → HasTypes o.script
    → AllByRecursion BringsBytes before
    → (happenings : List Happening) (rest : List ℕ)
    → queue s.routed serial ≡ fed_by happenings ++ rest
    → list_any blames happenings ≡ false
    → Understands first.role (queued_messages s.routed serial) (fed_by happenings)
    (run first happenings)

-- by every client that joins
abbrev pub JoiningUnderstands : Type 0
JoiningUnderstands =
    (name : List ℕ) (w h : ℕ) (script : List ClientLine) (now : ℕ)
    → IsUnderstoodBy (joining name w h script now)
