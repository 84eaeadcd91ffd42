-- The bytes of whole clipboards are those that came.
use Rattle.std.proofs.Common.{ℕ, Bool, true, false, cond, List, [], ◌∷◌, ◌++◌, length, Option, Some, None}
use Rattle.std.specs.Prelude.{IfSome, if◌then◌else◌, ◌&&◌, ◌==◌, nat_le, codes}
use Rattle.std.specs.List.{AllByRecursion}
use Rattle.std.specs.Int.{w32, to_be_bytes}
use Rattle.std.proofs.Common.{◌+◌}
use Rattle.share_base.specs.declared.clip_id.ClipId.{ClipId}
use Rattle.share_base.specs.Clips.{clip_number}
use Rattle.message_codec.specs.declared.clip_mark.ClipMark.{ClipMark}
use Rattle.message_codec.specs.declared.clip_mark.ClipMark.TheVariants as mark
use Rattle.message_codec.specs.declared.messages.Msg.{Msg}
use Rattle.message_codec.specs.declared.messages.Msg.TheVariants as msg
use Rattle.message_codec.specs.Marks.{mark_number}
use Rattle.message_codec.specs.Spelling.{body_of}
use Rattle.message_codec.specs.Streams.{AreBytes, frame_of, frames_of}
use Rattle.clip_chunks.specs.declared.run.Run.{Run}
use Rattle.clip_chunks.specs.Parts.{Part, part, same_clip, of_clip}
use Rattle.clip_chunks.specs.OpenRuns.{opens, goes_on, run_after, open_run, closes, whole_at}
use Rattle.clip_chunks.specs.Wholes.{size_of}
use Rattle.message_reader.proofs.Stepping.{bytes-append}

-- ---- parts

abbrev pub ArePartBytes : List Part → Type 0
ArePartBytes parts = AllByRecursion (λ p. AreBytes p.bytes) parts

abbrev IsRunOfBytes : Option Run → Type 0
IsRunOfBytes r = IfSome r (λ run. AreBytes run.bytes)

opens-bytes : (limit seq : ℕ) (size : Option ℕ) → IsRunOfBytes (opens limit seq size)
opens-bytes limit seq None = tt
opens-bytes limit seq (Some size) = by (nat_le size limit)
  where
    by : (b : Bool) → IsRunOfBytes (if b then Some (record { seq = seq; size = size; bytes = [] }) else None)
    by true = tt
    by false = tt

goes-bytes : (seq : ℕ) (bytes : List ℕ) (r : Option Run) → AreBytes bytes → IsRunOfBytes r → IsRunOfBytes (goes_on seq bytes r)
goes-bytes seq bytes None small h = tt
goes-bytes seq bytes (Some r) small h = by ((r.seq == seq) && nat_le (length r.bytes + length bytes) r.size)
  where
    by : (b : Bool) → IsRunOfBytes (if b then Some (record { seq = r.seq; size = r.size; bytes = r.bytes ++ bytes }) else None)
    by true = bytes-append r.bytes bytes h small
    by false = tt

run-bytes : (limit : ℕ) (m : ClipMark) (seq : ℕ) (bytes : List ℕ) (r : Option Run) → AreBytes bytes → IsRunOfBytes r → IsRunOfBytes (run_after limit m seq bytes r)
run-bytes limit mark.Start seq bytes r small h = opens-bytes limit seq (size_of bytes)
run-bytes limit mark.Chunk seq bytes r small h = goes-bytes seq bytes r small h
run-bytes limit mark.End seq bytes r small h = tt

open-bytes : (limit : ℕ) (parts : List Part) → ArePartBytes parts → IsRunOfBytes (open_run limit parts)
open-bytes limit [] all = tt
open-bytes limit (p ∷ older) all = run-bytes limit p.mark p.seq p.bytes (open_run limit older) all.0 (open-bytes limit older all.1)

clip-bytes : (clip : ClipId) (parts : List Part) → ArePartBytes parts → ArePartBytes (of_clip clip parts)
clip-bytes clip [] all = tt
clip-bytes clip (p ∷ ps) all = by (same_clip clip p.clip) (clip-bytes clip ps all.1)
  where
    by : (b : Bool) → ArePartBytes (of_clip clip ps) → ArePartBytes (cond b (p ∷ of_clip clip ps) (of_clip clip ps))
    by true more = (all.0, more)
    by false more = more

closed-bytes : (seq : ℕ) (r : Option Run) → IsRunOfBytes r → IfSome (closes seq r) AreBytes
closed-bytes seq None h = tt
closed-bytes seq (Some r) h = by ((r.seq == seq) && (length r.bytes == r.size))
  where
    by : (b : Bool) → IfSome (if b then Some r.bytes else None) AreBytes
    by true = h
    by false = tt

pub whole-bytes : (limit : ℕ) (clip : ClipId) (seq : ℕ) (m : ClipMark) (bytes : List ℕ) (older : List Part) → ArePartBytes older → IfSome (whole_at limit (part m clip seq bytes) older) AreBytes
whole-bytes limit clip seq mark.Start bytes older all = tt
whole-bytes limit clip seq mark.Chunk bytes older all = tt
whole-bytes limit clip seq mark.End bytes older all = closed-bytes seq (open_run limit (of_clip clip older)) (open-bytes limit (of_clip clip older) (clip-bytes clip older all))

-- ---- messages

-- the bytes of a part
abbrev pub HasBytes : Msg → Type 0
HasBytes (msg.ClipPart clip seq mark bytes) = AreBytes bytes
HasBytes _ = Unit {0}

pub after-bytes : (xs ys : List ℕ) → AreBytes (xs ++ ys) → AreBytes ys
after-bytes [] ys all = all
after-bytes (x ∷ xs) ys all = after-bytes xs ys all.1

pub before-bytes : (xs ys : List ℕ) → AreBytes (xs ++ ys) → AreBytes xs
before-bytes [] ys all = tt
before-bytes (x ∷ xs) ys all = (all.0, before-bytes xs ys all.1)

body-bytes : (m : Msg) → AreBytes (body_of m) → HasBytes m
body-bytes (msg.ClipPart clip seq mark bytes) all =
    let tail = after-bytes (to_be_bytes w32 (length bytes)) (bytes ++ []) (after-bytes (mark_number mark ∷ []) (to_be_bytes w32 (length bytes) ++ bytes ++ [])
    (after-bytes (to_be_bytes w32 seq) ((mark_number mark ∷ []) ++ to_be_bytes w32 (length bytes) ++ bytes ++ []) (after-bytes (codes "DCLP" ++ clip_number clip ∷ []) (to_be_bytes w32 seq ++ (mark_number mark ∷ []) ++ to_be_bytes w32 (length bytes) ++ bytes ++ []) all))) in
    before-bytes bytes [] tail
body-bytes _ all = tt

-- messages of a stream of bytes
pub have-bytes : (messages : List Msg) (rest : List ℕ) → AreBytes (frames_of messages ++ rest) → AllByRecursion HasBytes messages
have-bytes messages rest all = of_frames messages (before-bytes (frames_of messages) rest all)
  where
    of_frames : (ms : List Msg) → AreBytes (frames_of ms) → AllByRecursion HasBytes ms
    of_frames [] all = tt
    of_frames (m ∷ ms) all = (
      body-bytes m (after-bytes (to_be_bytes w32 (length (body_of m))) (body_of m) (before-bytes (frame_of m) (frames_of ms) all)),
      of_frames ms (after-bytes (frame_of m) (frames_of ms) all),
    )
