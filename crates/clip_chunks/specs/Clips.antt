-- The state of the clipboards: who owns each, and which screens are still to be sent it. A screen
-- is its number.
use Rattle.std.specs.Prelude.{ℕ, Bool, not, ◌==◌, List, filter, Option}
use Rattle.std.specs.List.{list_any}
use Rattle.share_base.specs.declared.clip_id.ClipId.{ClipId}
use Rattle.share_base.specs.declared.clip_id.ClipId.TheVariants.{Clipboard, Selection}

-- the kept sequence is that of the latest copy, grab or whole that counted. The bytes are there
-- where they are known
pub record Clip : Type 0 where
  pub owner : ℕ
  pub seq : ℕ
  pub bytes : Option (List ℕ)
  pub dirty : List ℕ

pub record Clips : Type 0 where
  pub clipboard : Clip
  pub selection : Clip

abbrev pub clip_of : ClipId → Clips → Clip
clip_of Clipboard clips = clips.clipboard
clip_of Selection clips = clips.selection

abbrev pub with_clip : ClipId → Clip → Clips → Clips
with_clip Clipboard c clips = record clips { clipboard = c }
with_clip Selection c clips = record clips { selection = c }

-- ---- lists of screens

abbrev pub is_among : List ℕ → ℕ → Bool
is_among screens screen = list_any (λ n. n == screen) screens

abbrev pub without : List ℕ → ℕ → List ℕ
without screens screen = filter (λ n. not (n == screen)) screens

abbrev pub is_dirty : ℕ → Clip → Bool
is_dirty screen c = is_among c.dirty screen
