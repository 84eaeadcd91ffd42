-- What a client that joins a server keeps besides its screen.
use Rattle.std.specs.Prelude.{ℕ, Bool, false, max, List, Option, Some, None}
use Rattle.share_base.specs.Moments.{moment_of}
use Rattle.share_base.specs.declared.clip_id.ClipId.{ClipId}
use Rattle.message_codec.specs.declared.messages.Msg.{Msg}
use Rattle.keepalive_clock.specs.declared.alive.Alive.{Alive}
use Rattle.keepalive_clock.specs.KeepAlive as keep_alive
use Rattle.script_screen.specs.declared.client_script.ClientLine.{ClientLine}
use Rattle.client_talk.specs.declared.conversation.TheConstants.{DEFAULT_RATE}
use Rattle.client_talk.specs.declared.copies.Copies.{Copies}
use Rattle.client_talk.specs.Copies.{no_copies, with_copy, copies_messages}
use Rattle.client_talk.specs.Outboxes as outbox
use Rattle.client_talk.specs.Outboxes.{Untaken}

pub record Talk : Type 0 where
  -- its screen
  pub name : List ℕ
  pub w : ℕ
  pub h : ℕ
  -- the clock
  pub at : ℕ  -- its own moment, the greatest that was given to it
  pub alive : Alive  -- when the server was last heard, and the rate of its beats
  -- the script
  pub lines : List ClientLine  -- those that have not run
  pub sleeps_until : Option ℕ
  pub is_joined : Bool  -- the server took the screen's information once
  pub is_resized : Bool  -- it has not taken it since the latest change of the size
  -- its clipboards
  pub entered : ℕ  -- the sequence of the latest entering, 0 before the first
  pub copies : Copies  -- what the script copied and was neither sent nor taken by another screen
  -- what is sent
  pub untaken : Untaken

-- a client that was made then
abbrev pub begun : List ℕ → (w h : ℕ) → List ClientLine → ℕ → Talk
begun name w h lines now = record {
  name = name;
  w = w;
  h = h;
  at = moment_of now;
  alive = keep_alive.alive_from DEFAULT_RATE now;
  lines = lines;
  sleeps_until = None;
  is_joined = false;
  is_resized = false;
  entered = 0;
  copies = no_copies;
  untaken = outbox.nothing;
}

-- its moment never goes back
abbrev pub told : ℕ → Talk → Talk
told moment t = record t { at = max t.at (moment_of moment) }

abbrev pub is_dead : Talk → Bool
is_dead t = keep_alive.is_dead t.alive t.at

abbrev pub is_slow : Talk → Bool
is_slow t = t.untaken.is_slow

abbrev pub sends : Msg → Talk → Talk
sends m t = record t { untaken = outbox.queued m t.untaken }

-- what was copied is sent with the sequence of the latest entering, once
abbrev pub sends_copies : Talk → Talk
sends_copies t =
    record t {
      copies = no_copies;
      untaken = outbox.queued_all (copies_messages t.entered t.copies) t.untaken;
    }

-- the copy of a clipboard is to be sent, in place of an earlier one
abbrev pub keeps_copy : ClipId → List ℕ → Talk → Talk
keeps_copy clip bytes t = record t { copies = with_copy clip (Some bytes) t.copies }

-- another screen took a clipboard
abbrev pub forgets_copy : ClipId → Talk → Talk
forgets_copy clip t = record t { copies = with_copy clip None t.copies }

-- the server's link took bytes
abbrev pub took : ℕ → Talk → Talk
took n t = record t { untaken = outbox.without n t.untaken }
