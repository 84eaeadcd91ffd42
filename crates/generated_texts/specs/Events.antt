-- The events that draws make.
use Rattle.std.specs.Prelude.{ℕ, zero, suc, ◌+◌, ◌≤◌, pos, ◌-ℤ◌, ◌==◌, nat_lt, if◌then◌else◌, List, map}
use Rattle.std.specs.List.{range_with_len}
use Rattle.generated_texts.specs.Draws.{drawn_after}
use Rattle.generated_texts.specs.declared.event.Event.{Event}
use Rattle.generated_texts.specs.declared.event.Event.TheVariants.{Motion, Wheel, Key, Button, Copy}

-- the event that a draw below 8 and, for what it needs more, further draws make
abbrev pub event_of : ℕ → (ℕ → ℕ) → (ℕ → ℕ) → Event
event_of kind second third =
    if nat_lt kind 4 then Motion (pos (second 801) -ℤ pos 400) (pos (third 401) -ℤ pos 200)
    else (if kind == 4 then Wheel
    else (if kind == 5 then Key (1 + second 40)
    else (if kind == 6 then Button (1 + second 3)
    else Copy (second 65))))

-- how many draws an event takes
abbrev pub draws_of : Event → ℕ
draws_of (Motion dx dy) = 3
draws_of Wheel = 1
draws_of (Key button) = 2
draws_of (Button button) = 2
draws_of (Copy count) = 2

-- the event that the draws after so many others make
unfoldable pub event_after : ℕ → ℕ → Event
event_after seed draws = event_of (drawn_after seed draws 8) (drawn_after seed (draws + 1))
    (drawn_after seed (draws + 2))

-- how many draws the first so many events take together
unfoldable pub draws_before : ℕ → ℕ → ℕ
draws_before seed zero = 0
draws_before seed (suc i) = draws_before seed i + draws_of (event_after seed (draws_before seed i))

-- the event at an index: its draws follow those of the events before it
unfoldable pub event_at : ℕ → ℕ → Event
event_at seed i = event_after seed (draws_before seed i)

-- the first so many events
abbrev pub events : ℕ → ℕ → List Event
events seed count = map (event_at seed) (range_with_len 0 count)

-- the numbers of an event are in their ranges
abbrev pub IsEvent : Event → Type 0
IsEvent (Key button) = (1 ≤ button) × (button ≤ 40)
IsEvent (Button button) = (1 ≤ button) × (button ≤ 3)
IsEvent (Copy count) = count ≤ 64
IsEvent _ = Unit {0}
