-- Whole clipboards among the parts that came: a start, chunks and an end that are neighbours among
-- the parts of their clipboard.
use Rattle.std.specs.Prelude.{◌≡◌, ℕ, ◌≤◌, ◌&&◌, nat_le, List, ◌∷◌, ◌++◌, length, reverse, Option}
use Rattle.std.specs.Prelude.{Some, None, if◌then◌else◌}
use Rattle.std.specs.List.{concat, list_all}
use Rattle.std.specs.Char.{is_ascii_digit}
use Rattle.std.specs.Str.Parse.{digits_value}
use Rattle.share_base.specs.declared.clip_id.ClipId.{ClipId}
use Rattle.clip_chunks.specs.Parts.{Part, run, of_clip}

-- the size that the bytes of a start say: the number of their 1 to 10 digits
abbrev pub size_of : List ℕ → Option ℕ
size_of text =
    if nat_le 1 (length text) && nat_le (length text) 10 && list_all is_ascii_digit text
    then Some (digits_value 10 text) else None

-- parts that are a whole: a start that says how many bytes the chunks have, within the limit, the
-- chunks, and an end, all of one sequence
pub record IsWhole (limit : ℕ) (clip : ClipId) (seq : ℕ) (bytes : List ℕ) (parts : List Part)
    : Type 0 where
  pub digits : List ℕ
  pub chunks : List (List ℕ)
  pub ignored : List ℕ
  pub parts_are : parts ≡ run clip seq digits chunks ignored
  pub size : size_of digits ≡ Some (length bytes)
  pub within : length bytes ≤ limit
  pub bytes_are : bytes ≡ concat chunks

-- the newest part ends a whole of those bytes: the last of its clipboard's parts are one. The older
-- parts stand the newest first
pub record EndsWhole (limit : ℕ) (bytes : List ℕ) (newest : Part) (older : List Part) : Type 0 where
  pub before : List Part
  pub parts : List Part
  pub last : reverse (of_clip newest.clip (newest ∷ older)) ≡ before ++ parts
  pub whole : IsWhole limit newest.clip newest.seq bytes parts
