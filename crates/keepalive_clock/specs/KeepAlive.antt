-- When the next beat of a keep-alive is due, and when the peer counts as dead.
use Rattle.std.specs.Prelude.{ℕ, ◌+◌, ◌*◌, min, Bool, not, ◌&&◌, ◌==◌, nat_le, if◌then◌else◌}
use Rattle.std.specs.Prelude.{Option, Some, None}
use Rattle.keepalive_clock.specs.declared.alive.Alive.{Alive}
use Rattle.share_base.specs.Moments.{moment_of}

-- at a rate of 0 there are neither beats nor deaths
abbrev pub beats : Alive → Bool
beats a = not (a.rate == 0)

-- a beat is due one rate after the last one
abbrev pub beat_moment : Alive → ℕ
beat_moment a = moment_of a.sent + a.rate

-- the peer is dead when it was not heard for three rates
abbrev pub death_moment : Alive → ℕ
death_moment a = moment_of a.heard + 3 * a.rate

abbrev pub death_of : Alive → Option ℕ
death_of a = if beats a then Some (death_moment a) else None

-- the next of the two
abbrev pub due_moment : Alive → Option ℕ
due_moment a = if beats a then Some (min (beat_moment a) (death_moment a)) else None

abbrev pub is_beat_due : Alive → ℕ → Bool
is_beat_due a now = beats a && nat_le (beat_moment a) (moment_of now)

abbrev pub is_dead : Alive → ℕ → Bool
is_dead a now = beats a && nat_le (death_moment a) (moment_of now)

-- ---- what changes

-- a keep-alive that begins now
abbrev pub alive_from : ℕ → ℕ → Alive
alive_from rate now = record { sent = moment_of now; heard = moment_of now; rate = rate }

-- a beat that is due is sent now, once
abbrev pub after_beat : Alive → ℕ → Alive
after_beat a now = if is_beat_due a now then record a { sent = moment_of now } else a

-- any whole message of the peer is heard now
abbrev pub after_hearing : Alive → ℕ → Alive
after_hearing a now = record a { heard = moment_of now }
