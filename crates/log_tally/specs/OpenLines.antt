-- What is kept of a line that has not ended, and of a text.
use Rattle.std.specs.Prelude.{◌≡◌, ℕ, ◌==◌, List, take, count_by}
use Rattle.log_tally.specs.declared.open_line.OpenLine.{OpenLine}
use Rattle.log_tally.specs.declared.totals.Totals.{Totals}
use Rattle.log_tally.specs.LogLines.{split_lines, word_after, digits_value}
use Rattle.log_tally.specs.Totals.{capped, total_frames, total_taken, total_queued}

abbrev pub blanks_in : List ℕ → ℕ
blanks_in line = count_by (λ b. b == 32) line

-- of a line so far: the front of its first word, and its third and its fourth word as numbers
pub record IsKept (kept : OpenLine) (line : List ℕ) : Type 0 where
  pub first : kept.first ≡ take 7 (word_after 0 line)
  pub blanks : kept.blanks ≡ capped (blanks_in line)
  pub taken : kept.taken ≡ capped (digits_value (word_after 2 line))
  pub queued : kept.queued ≡ capped (digits_value (word_after 3 line))

-- of a text: the totals of its lines, and what is kept of its rest
pub record AreTotalsOf (totals : Totals) (text : List ℕ) : Type 0 where
  pub frames : totals.frames ≡ total_frames text
  pub taken : totals.taken ≡ total_taken text
  pub queued : totals.queued ≡ total_queued text
  pub line : IsKept totals.line (split_lines text).rest
