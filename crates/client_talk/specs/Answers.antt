-- What a client answers to a message, and what it notes of it.
use Rattle.std.specs.Prelude.{ℕ, pos, ◌/◌, Bool, true, false, not, ◌&&◌, ◌==◌, nat_le}
use Rattle.message_codec.specs.declared.messages.Msg.{Msg}
use Rattle.message_codec.specs.declared.messages.Msg.TheVariants as msg
use Rattle.keepalive_clock.specs.KeepAlive.{after_hearing}
use Rattle.client_talk.specs.declared.conversation.TheConstants.{DEFAULT_RATE}
use Rattle.client_talk.specs.declared.version.TheConstants.{MAJOR, MINOR}
use Rattle.client_talk.specs.Options.{rate_after}
use Rattle.client_talk.specs.Talks.{Talk, sends, sends_copies, forgets_copy}

-- a server of the client's major version, and of its minor or a later one
abbrev pub is_welcome : (major minor : ℕ) → Bool
is_welcome major minor = (major == MAJOR) && nat_le MINOR minor

-- a screen at 0, 0 with the cursor at its middle
abbrev pub information : (w h : ℕ) → Msg
information w h = msg.Info (pos 0) (pos 0) w h 0 (pos (w / 2)) (pos (h / 2))

-- ---- answers

-- where the cursor leaves, what the script copied is sent

abbrev pub answers : Msg → Talk → Talk
answers (msg.Hello major minor) t = sends (msg.HelloBack MAJOR MINOR t.name) t
answers msg.QueryInfo t = sends (information t.w t.h) t
answers msg.Alive t = sends msg.Alive t
answers msg.Leave t = sends_copies t
answers _ t = t

-- ---- notes

abbrev pub with_rate : ℕ → Talk → Talk
with_rate rate t =
    record t { alive = record { sent = t.alive.sent; heard = t.alive.heard; rate = rate } }

abbrev pub notes_of : Msg → Talk → Talk
notes_of msg.InfoAck t = record t { is_joined = true; is_resized = false }
notes_of msg.ResetOptions t = with_rate DEFAULT_RATE t
notes_of (msg.SetOptions words) t = with_rate (rate_after t.alive.rate words) t
notes_of (msg.Enter x y seq mask) t = record t { entered = seq }
notes_of (msg.Grab clip seq) t = forgets_copy clip t
notes_of _ t = t

-- the server was heard at the client's own moment
abbrev pub notes : Msg → Talk → Talk
notes m t = notes_of m (record t { alive = after_hearing t.alive t.at })

abbrev pub hears : Msg → Talk → Talk
hears m t = notes m (answers m t)

-- ---- the screen

-- whether the screen gets the message: not one that is only answered, nor a move from before the
-- server knows the new size
abbrev pub is_for_screen : Talk → Msg → Bool
is_for_screen t (msg.Hello major minor) = false
is_for_screen t msg.QueryInfo = false
is_for_screen t msg.Alive = false
is_for_screen t (msg.MoveTo x y) = not t.is_resized
is_for_screen t _ = true
