-- The numbers of the clipboards.
use Rattle.std.specs.Prelude.{ℕ}
use Rattle.share_base.specs.declared.clip_id.ClipId.{ClipId}
use Rattle.share_base.specs.declared.clip_id.ClipId.TheVariants.{Clipboard, Selection}

abbrev pub clip_number : ClipId → ℕ
clip_number Clipboard = 0
clip_number Selection = 1
