-- Where the known bytes of a clipboard come from.
use Rattle.std.specs.Prelude.{◌≡◌, ℕ, List, ◌∷◌, ◌++◌, Some}
use Rattle.share_base.specs.declared.clip_id.ClipId.{ClipId}
use Rattle.clip_chunks.specs.Clips.{Clip, clip_of}
use Rattle.clip_chunks.specs.Calls.{Call, Copied, Grabbed, Sent, Joined, Left, Entered, clips_after}

-- the call is a copy of these bytes at that sequence, or their whole with it from the screen that
-- owned the clipboard then
abbrev pub Brings : ClipId → ℕ → List ℕ → Clip → Call → Type 0
Brings clip seq bytes was (Copied id copy machine screens) =
    (id ≡ clip) × (machine ≡ seq) × (copy ≡ bytes)
Brings clip seq bytes was (Sent id by given machine whole screens) =
    (id ≡ clip) × (given ≡ seq) × (whole ≡ bytes) × (was.owner ≡ by)
Brings clip seq bytes was (Grabbed id by given machine) = ⊥
Brings clip seq bytes was (Joined screen) = ⊥
Brings clip seq bytes was (Left screen) = ⊥
Brings clip seq bytes was (Entered id screen) = ⊥

-- one of the calls, which stand the newest first, brought these bytes with that sequence
pub record WereBrought (primary limit : ℕ) (clip : ClipId) (seq : ℕ) (bytes : List ℕ)
    (calls : List Call) : Type 0 where
  pub newer : List Call
  pub call : Call
  pub older : List Call
  pub calls_are : calls ≡ newer ++ call ∷ older
  pub brings : Brings clip seq bytes (clip_of clip (clips_after primary limit older)) call

-- known bytes were brought with the kept sequence
abbrev pub KnownWereBrought : ℕ → ℕ → ClipId → List Call → Type 0
KnownWereBrought primary limit clip calls =
    (bytes : List ℕ) → (clip_of clip (clips_after primary limit calls)).bytes ≡ Some bytes
    → WereBrought primary limit clip (clip_of clip (clips_after primary limit calls)).seq bytes
    calls
