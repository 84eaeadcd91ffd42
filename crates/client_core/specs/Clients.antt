-- A client, and what messages and bytes do to it.
use Rattle.std.specs.Prelude.{ℕ, List, [], ◌∷◌, ◌++◌, length, drop, fold, Option, Some, None, if◌then◌else◌}
use Rattle.std.specs.Option.{option_map}
use Rattle.share_base.specs.declared.reason.Reason.{Reason}
use Rattle.message_codec.specs.declared.messages.Msg.{Msg}
use Rattle.message_codec.specs.Inboxes.{Inbox, inbox}
use Rattle.message_reader.specs.declared.reader.BadFrame.{BadFrame}
use Rattle.message_reader.specs.declared.role.Role.{Role}
use Rattle.message_reader.specs.Roles.{reader_of}
use Rattle.client_talk.specs.Talks.{Talk, is_slow}
use Rattle.client_talk.specs.Answers.{hears, is_for_screen}
use Rattle.client_core.specs.declared.client_end.ClientEnd.{ClientEnd}
use Rattle.client_core.specs.declared.client_end.ClientEnd.TheVariants as end
use Rattle.client_core.specs.declared.client_end.LostCause.TheVariants as lost
use Rattle.client_core.specs.declared.stop.Stop.{Stop}
use Rattle.client_core.specs.Ends.{stop_in, end_for}

pub record Client : Type 0 where
  pub role : Role
  pub received : List ℕ  -- the bytes that came while it went on
  pub heard : List Msg  -- their messages, up to the one that ended it
  pub shown : List Msg  -- those that its screen got
  pub talk : Option Talk  -- of one that joins; one that injects has none
  pub taken : List ℕ  -- what its link took of the bytes that it sent
  pub done : Option ClientEnd

-- once it is done nothing more counts
abbrev pub while_going : Option ClientEnd → (Client → Client) → Client → Client
while_going None next c = next c
while_going (Some end) next c = c

-- ---- a message

abbrev pub shown_of : Option Talk → Msg → List Msg
shown_of None m = m ∷ []
shown_of (Some t) m = if is_for_screen t m then m ∷ [] else []

-- it is lost where a frame had no room
abbrev pub slow_end : Option Talk → Option ClientEnd
slow_end None = None
slow_end (Some t) = if is_slow t then Some (end.Lost lost.Slow) else None

abbrev pub listens : Msg → Client → Client
listens m c = record c {
  heard = c.heard ++ m ∷ [];
  shown = c.shown ++ shown_of c.talk m;
  talk = option_map (hears m) c.talk;
  done = slow_end (option_map (hears m) c.talk);
}

-- a message ends it, or is heard
abbrev pub takes : Option Stop → Msg → Client → Client
takes (Some by) m c = record c { done = Some (end_for by) }
takes None m c = listens m c

abbrev pub hear : Client → Msg → Client
hear c m = while_going c.done (takes (stop_in c.talk m) m) c

abbrev pub hear_all : Client → List Msg → Client
hear_all c messages = fold hear c messages

-- ---- bytes

abbrev pub fed : List ℕ → Client → Client
fed piece c = record c { received = c.received ++ piece }

-- what all its bytes come to with these
abbrev pub inbox_with : List ℕ → Client → Inbox
inbox_with piece c = inbox (reader_of c.role) (c.received ++ piece)

abbrev pub bad_in : Inbox → Option BadFrame
bad_in box = option_map (λ (why : Reason). record { place = box.place; reason = why }) box.bad

abbrev pub fails : Option BadFrame → Client → Client
fails None c = c
fails (Some bad) c = record c { done = Some (end.BadPeer bad.place bad.reason) }

-- the messages that it has not heard are heard, and then the bad frame counts
abbrev pub reads : Inbox → Client → Client
reads box c =
    (λ (d : Client). while_going d.done (fails (bad_in box)) d)
    (hear_all c (drop (length c.heard) box.messages))

abbrev pub got : List ℕ → Client → Client
got piece c = while_going c.done (λ d. reads (inbox_with piece d) (fed piece d)) c
