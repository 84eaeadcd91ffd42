-- A message is known by its code and its fields.
use Rattle.std.proofs.Common.{◌≡◌, refl, sym, ap, ◌∙◌}
use Rattle.share_base.specs.declared.clip_id.ClipId.TheVariants as clips
use Rattle.message_codec.specs.declared.clip_mark.ClipMark.TheVariants as marks
use Rattle.message_codec.specs.declared.messages.Msg.{Msg}
use Rattle.message_codec.specs.declared.messages.Msg.TheVariants as msg
use Rattle.message_codec.specs.declared.coding.Code.{Code}
use Rattle.message_codec.specs.Messages.{the_signed, the_number, the_list, clip_of, mark_of}
use Rattle.message_codec.specs.Messages.{field_at, built}
use Rattle.message_codec.specs.Table.{code_of, fields}

pub built-parts : (m : Msg) → built (code_of m) (fields m) ≡ m
unfolding built the_signed the_number the_list clip_of mark_of field_at
built-parts (msg.Grab clips.Clipboard seq) = refl
built-parts (msg.Grab clips.Selection seq) = refl
built-parts (msg.ClipPart clips.Clipboard seq marks.Start bytes) = refl
built-parts (msg.ClipPart clips.Clipboard seq marks.Chunk bytes) = refl
built-parts (msg.ClipPart clips.Clipboard seq marks.End bytes) = refl
built-parts (msg.ClipPart clips.Selection seq marks.Start bytes) = refl
built-parts (msg.ClipPart clips.Selection seq marks.Chunk bytes) = refl
built-parts (msg.ClipPart clips.Selection seq marks.End bytes) = refl
built-parts m = refl

pub same_parts : (m n : Msg) → code_of m ≡ code_of n → fields m ≡ fields n → m ≡ n
same_parts m n codes same =
    sym (built-parts m) ∙ ap (λ (c : Code). built c (fields m)) codes ∙ ap (built (code_of n)) same
    ∙ built-parts n
