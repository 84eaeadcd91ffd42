-- What the lines of a log come to: how many frames were sent, and how many bytes were taken and
-- queued on the connections that were closed.
use Rattle.std.specs.Prelude.{ℕ, ◌-◌, ◌^◌, min, Bool, if◌then◌else◌, List, count_by, sum_by, codes}
use Rattle.std.specs.Str.{bytes_eq}
use Rattle.log_tally.specs.LogLines.{split_lines, word_after, digits_value}

-- a line `send SERIAL MESSAGE`
abbrev pub is_send : List ℕ → Bool
is_send line = bytes_eq (word_after 0 line) (codes "send")

-- a line `closed SERIAL TAKEN QUEUED`
abbrev pub is_closed : List ℕ → Bool
is_closed line = bytes_eq (word_after 0 line) (codes "closed")

abbrev pub line_taken : List ℕ → ℕ
line_taken line = if is_closed line then digits_value (word_after 2 line) else 0

abbrev pub line_queued : List ℕ → ℕ
line_queued line = if is_closed line then digits_value (word_after 3 line) else 0

-- ---- totals over all lines, in 64 bits: they stand still at their last value

abbrev pub capped : ℕ → ℕ
capped n = min n (2 ^ 64 - 1)

abbrev pub total_frames : List ℕ → ℕ
total_frames text = capped (count_by is_send (split_lines text).lines)

abbrev pub total_taken : List ℕ → ℕ
total_taken text = capped (sum_by line_taken (split_lines text).lines)

abbrev pub total_queued : List ℕ → ℕ
total_queued text = capped (sum_by line_queued (split_lines text).lines)
