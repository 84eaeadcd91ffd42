-- The clipboards after a list of calls.
use Rattle.std.specs.Prelude.{ℕ, List, [], ◌∷◌, if◌then◌else◌}
use Rattle.share_base.specs.declared.clip_id.ClipId.{ClipId}
use Rattle.clip_chunks.specs.Clips.{Clips, clip_of, with_clip}
use Rattle.clip_chunks.specs.Rules.{copy_counts, grab_counts, whole_counts, known, unknown, joined}
use Rattle.clip_chunks.specs.Rules.{left, entered, first_clips}

-- the script copied; a client grabbed a clipboard, or sent a whole; a screen joined, left, or was
-- entered. A sequence is the message's, and then the machine's
pub data Call : Type 0 where
  Copied : (clip : ClipId) (bytes : List ℕ) (machine : ℕ) (screens : List ℕ) → Call
  Grabbed : (clip : ClipId) (by given machine : ℕ) → Call
  Sent : (clip : ClipId) (by given machine : ℕ) (bytes screens : List ℕ) → Call
  Joined : (screen : ℕ) → Call
  Left : (screen : ℕ) → Call
  Entered : (clip : ClipId) (screen : ℕ) → Call

-- what one call makes of them; what doesn't count changes nothing
abbrev pub ruled : ℕ → ℕ → Call → Clips → Clips
ruled primary limit (Copied clip bytes machine screens) clips =
    if copy_counts limit bytes then with_clip clip (known primary machine bytes screens) clips
    else clips
ruled primary limit (Grabbed clip by given machine) clips =
    if grab_counts given machine (clip_of clip clips) then with_clip clip (unknown by given) clips
    else clips
ruled primary limit (Sent clip by given machine bytes screens) clips =
    if whole_counts by given machine (clip_of clip clips)
    then with_clip clip (known by given bytes screens) clips else clips
ruled primary limit (Joined screen) clips =
    record { clipboard = joined screen clips.clipboard; selection = joined screen clips.selection }
ruled primary limit (Left screen) clips =
    record {
      clipboard = left primary screen clips.clipboard;
      selection = left primary screen clips.selection;
    }
ruled primary limit (Entered clip screen) clips =
    with_clip clip (entered screen (clip_of clip clips)) clips

-- what calls made of them, the newest first
abbrev pub clips_after : ℕ → ℕ → List Call → Clips
clips_after primary limit [] = first_clips primary
clips_after primary limit (call ∷ calls) =
    ruled primary limit call (clips_after primary limit calls)
