-- What each phase becomes: by the answer to the greeting, by a screen's information, and by a cause
-- of parting.
use Rattle.std.specs.Prelude.{ℕ, ℤ, pos, ◌+ℤ◌, int_le, Bool, ◌&&◌, ◌==◌, nat_le, if◌then◌else◌}
use Rattle.std.specs.Prelude.{Option, Some, None}
use Rattle.share_base.specs.declared.shape.Shape.{Shape}
use Rattle.share_base.specs.Moments.{moment_of}
use Rattle.keepalive_clock.specs.KeepAlive as keep_alive
use Rattle.hello_states.specs.declared.part_cause.PartCause.{PartCause}
use Rattle.hello_states.specs.declared.part_cause.PartCause.TheVariants as cause
use Rattle.hello_states.specs.Phases.{Phase, Greeting, Asked, Joined, Parting, AskedScreen}
use Rattle.hello_states.specs.Phases.{JoinedScreen}

-- an accepted connection is greeted
abbrev pub greeting_at : ℕ → Phase
greeting_at now = Greeting (moment_of now)

abbrev pub parting_for : PartCause → ℕ → Phase
parting_for cause now = Parting cause (moment_of now)

-- ---- the answer to the greeting

-- it is refused for a cause, or admitted as a screen
pub data HelloAnswer : Type 0 where
  Refused : (cause : PartCause) → HelloAnswer
  Admitted : (screen : ℕ) → HelloAnswer

-- version 1.6 alone (older minors are to be admitted here)
abbrev pub is_admitted : ℕ → ℕ → Bool
is_admitted major minor = (major == 1) && (minor == 6)

-- a name has to be that of a screen, which nobody uses
abbrev pub answer_by_name : Option ℕ → (ℕ → Bool) → HelloAnswer
answer_by_name None is_used = Refused cause.Unknown
answer_by_name (Some screen) is_used =
    if is_used screen then Refused cause.Busy else Admitted screen

-- the version is looked at before the name
abbrev pub hello_answer : ℕ → ℕ → Option ℕ → (ℕ → Bool) → HelloAnswer
hello_answer major minor screen is_used =
    if is_admitted major minor then answer_by_name screen is_used else Refused cause.Version

-- of a connection that was accepted then; the rate is that of its keep-alive, once it is joined
abbrev pub after_hello : HelloAnswer → (accepted rate now : ℕ) → Phase
after_hello (Refused cause) accepted rate now = parting_for cause now
after_hello (Admitted screen) accepted rate now =
    Asked (record { screen = screen; accepted = accepted; rate = rate })

-- ---- a screen's information

-- so many pixels from the first one: some, and with coordinates of two bytes
abbrev pub is_span : ℤ → ℕ → Bool
is_span first count =
    nat_le 1 count && nat_le count 32767 && int_le (first +ℤ pos count) (pos 32768)

-- the shape that an information tells, where a screen can have it
abbrev pub shape_of_info : ℤ → ℤ → ℕ → ℕ → Option Shape
shape_of_info x y w h =
    if is_span x w && is_span y h then Some (record { x = x; y = y; w = pos w; h = pos h })
    else None

-- a screen that was asked joins, and its keep-alive begins
abbrev pub asked_after_info : Option Shape → ℕ → AskedScreen → Phase
asked_after_info None now asked = parting_for cause.Size now
asked_after_info (Some shape) now asked =
    Joined
    (record
    { screen = asked.screen; shape = shape; alive = keep_alive.alive_from asked.rate now })

-- a joined screen has another shape, and was heard
abbrev pub joined_after_info : Option Shape → ℕ → JoinedScreen → Phase
joined_after_info None now joined = parting_for cause.Size now
joined_after_info (Some shape) now joined =
    Joined (record joined { shape = shape; alive = keep_alive.after_hearing joined.alive now })
