-- How far a connection has come, and what each phase keeps. Moments are in milliseconds; a screen
-- is its number.
use Rattle.std.specs.Prelude.{ℕ, ◌+◌, Bool, true, false, nat_le, Option, Some, None}
use Rattle.share_base.specs.declared.shape.Shape.{Shape}
use Rattle.keepalive_clock.specs.declared.alive.Alive.{Alive}
use Rattle.keepalive_clock.specs.KeepAlive as keep_alive
use Rattle.hello_states.specs.declared.deadlines.TheConstants.{HANDSHAKE_TIME, CLOSING_TIME}
use Rattle.hello_states.specs.declared.part_cause.PartCause.{PartCause}

-- a screen that was asked for its information, and when it was accepted; its keep-alive will have
-- that rate
pub record AskedScreen : Type 0 where
  pub screen : ℕ
  pub accepted : ℕ
  pub rate : ℕ

-- a screen that told its shape
pub record JoinedScreen : Type 0 where
  pub screen : ℕ
  pub shape : Shape
  pub alive : Alive

pub data Phase : Type 0 where
  Greeting : (accepted : ℕ) → Phase
  Asked : (asked : AskedScreen) → Phase
  Joined : (joined : JoinedScreen) → Phase
  Parting : (cause : PartCause) (moment : ℕ) → Phase

abbrev pub is_parting : Phase → Bool
is_parting (Parting cause moment) = true
is_parting _ = false

-- ---- screens

-- the screen that it keeps others from taking
abbrev pub used_screen : Phase → Option ℕ
used_screen (Asked asked) = Some asked.screen
used_screen (Joined joined) = Some joined.screen
used_screen _ = None

-- the screen that it is joined as
abbrev pub joined_screen : Phase → Option ℕ
joined_screen (Joined joined) = Some joined.screen
joined_screen _ = None

abbrev pub joined_shape : Phase → Option Shape
joined_shape (Joined joined) = Some joined.shape
joined_shape _ = None

-- ---- deadlines

-- how long after its acceptance a connection that hasn't joined is waited for
abbrev pub handshake_time : ℕ
handshake_time = HANDSHAKE_TIME

-- how long after its parting a connection stays open for what is still to be written
abbrev pub closing_time : ℕ
closing_time = CLOSING_TIME

-- the moment from which on a connection that hasn't joined is silent
abbrev pub silence_of : Phase → Option ℕ
silence_of (Greeting accepted) = Some (accepted + handshake_time)
silence_of (Asked asked) = Some (asked.accepted + handshake_time)
silence_of _ = None

abbrev pub has_come : Option ℕ → ℕ → Bool
has_come None now = false
has_come (Some moment) now = nat_le moment now

abbrev pub is_silent : Phase → ℕ → Bool
is_silent phase now = has_come (silence_of phase) now

-- ---- the keep-alive of a joined screen

abbrev pub is_dead_in : Phase → ℕ → Bool
is_dead_in (Joined joined) now = keep_alive.is_dead joined.alive now
is_dead_in _ now = false

abbrev pub is_beat_due_in : Phase → ℕ → Bool
is_beat_due_in (Joined joined) now = keep_alive.is_beat_due joined.alive now
is_beat_due_in _ now = false

abbrev pub after_beat_in : Phase → ℕ → Phase
after_beat_in (Joined joined) now =
    Joined (record joined { alive = keep_alive.after_beat joined.alive now })
after_beat_in phase now = phase

abbrev pub after_hearing_in : Phase → ℕ → Phase
after_hearing_in (Joined joined) now =
    Joined (record joined { alive = keep_alive.after_hearing joined.alive now })
after_hearing_in phase now = phase
