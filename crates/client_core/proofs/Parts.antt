-- Parts of clipboards, as a printer's clipboards take them.
use Rattle.std.proofs.Common.{◌≡◌, ◌∙◌, ap, ℕ, ◌+◌, ◌*◌, ◌≤◌, Bool, true, false, List, length, Option, Some, None, arith}
use Rattle.std.specs.Prelude.{IfSome, if◌then◌else◌, ◌==◌, ◌&&◌}
use Rattle.std.proofs.lemmas.Option.{same_Some}
use Rattle.share_base.specs.declared.clip_id.ClipId.{ClipId}
use Rattle.share_base.specs.declared.clip_id.ClipId.TheVariants.{Clipboard, Selection}
use Rattle.message_codec.specs.declared.clip_mark.ClipMark.{ClipMark}
use Rattle.message_codec.specs.declared.clip_mark.ClipMark.TheVariants as mark
use Rattle.clip_chunks.specs.declared.run.Run.{Run}
use Rattle.clip_chunks.specs.declared.took.Took.{Took}
use Rattle.clip_chunks.specs.Parts.{part}
use Rattle.clip_chunks.specs.OpenRuns.{closes, whole_by}
use Rattle.clip_chunks.specs.Assemblies.{Takes, Answers, IsAnswer, bytes_so_far, whole_in}
use Rattle.clip_chunks.proofs.Answered.{answered}
use Rattle.client_core.specs.declared.clipboards.Clipboards.{Clipboards}
use Rattle.client_core.specs.declared.clipboards.TheConstants.{CLIP_LIMIT}
use Rattle.client_core.specs.Clipboards.{Brings, assembly_of, room_for}

pub brings_clipboard : (old new : Clipboards) (m : ClipMark) (seq : ℕ) (bytes : List ℕ) (took : Took) → new.selection ≡ old.selection → Takes old.clipboard new.clipboard m seq bytes → Answers old.clipboard m seq bytes took → Brings old new (part m Clipboard seq bytes) (whole_in took)
brings_clipboard old new m seq bytes took same takes answers = record {
  stands = λ parts h. record {
    clipboard = takes CLIP_LIMIT Clipboard parts h.clipboard;
    selection = record { limit_is = ap (λ a. a.limit) same ∙ h.selection.limit_is; run_is = ap (λ a. a.run) same ∙ h.selection.run_is };
  };
  gives = λ parts h. (answers CLIP_LIMIT Clipboard parts h.clipboard).found;
}

pub brings_selection : (old new : Clipboards) (m : ClipMark) (seq : ℕ) (bytes : List ℕ) (took : Took) → new.clipboard ≡ old.clipboard → Takes old.selection new.selection m seq bytes → Answers old.selection m seq bytes took → Brings old new (part m Selection seq bytes) (whole_in took)
brings_selection old new m seq bytes took same takes answers = record {
  stands = λ parts h. record {
    clipboard = record { limit_is = ap (λ a. a.limit) same ∙ h.clipboard.limit_is; run_is = ap (λ a. a.run) same ∙ h.clipboard.run_is };
    selection = takes CLIP_LIMIT Selection parts h.selection;
  };
  gives = λ parts h. (answers CLIP_LIMIT Selection parts h.selection).found;
}

-- ---- room

closed : (seq : ℕ) (r : Option Run) (bytes : List ℕ) → Some bytes ≡ closes seq r → bytes ≡ bytes_so_far r
closed seq None bytes is = absurd cc
closed seq (Some r) bytes is = by ((r.seq == seq) && (length r.bytes == r.size)) is
  where
    by : (b : Bool) → Some bytes ≡ (if b then Some r.bytes else None) → bytes ≡ r.bytes
    by true is = same_Some bytes r.bytes is
    by false is = absurd cc

fits : (clip : ClipId) (m : ClipMark) (seq : ℕ) (k : Clipboards) (whole : Option (List ℕ)) → whole ≡ whole_by m seq (assembly_of clip k).run → IfSome whole (λ bytes. 2 * length bytes + 13 ≤ room_for clip m k)
fits clip m seq k None is = tt
fits clip mark.Start seq k (Some bytes) is = absurd cc
fits clip mark.Chunk seq k (Some bytes) is = absurd cc
fits clip mark.End seq k (Some bytes) is =
    let same : length bytes ≡ length (bytes_so_far (assembly_of clip k).run) = ap length (closed seq (assembly_of clip k).run bytes is) in omega arith

pub room_fits : (clip : ClipId) (m : ClipMark) (seq : ℕ) (bytes : List ℕ) (k : Clipboards) (took : Took) → IsAnswer (assembly_of clip k) m seq bytes took → IfSome (whole_in took) (λ all. 2 * length all + 13 ≤ room_for clip m k)
room_fits clip m seq bytes k took is = fits clip m seq k (whole_in took) (ap whole_in is ∙ answered (assembly_of clip k).limit m seq bytes (assembly_of clip k).run)
