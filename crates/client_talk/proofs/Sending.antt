-- Messages that are queued one after another, and the parts of a clipboard among them.
use Rattle.std.proofs.Common.{◌≡◌, ◌∙◌, ap, sym, refl, ℕ, ◌<◌, ◌≤◌, min, Bool, true, false, List, [], ◌∷◌, ◌++◌, length, take, map, Option, Some, Result, Ok, Err, append_assoc, arith}
use Rattle.std.specs.Prelude.{OnOk, OnErr, if◌then◌else◌}
use Rattle.std.specs.Fmt.{decimal}
use Rattle.std.proofs.lemmas.List.{append-nil, map-append, take-append-le, take_all}
use Rattle.std.proofs.lemmas.List.Sums.{fold-append}
use Rattle.share_base.specs.declared.clip_id.ClipId.{ClipId}
use Rattle.message_codec.specs.declared.clip_mark.ClipMark.TheVariants as mark
use Rattle.message_codec.specs.declared.messages.Msg.{Msg}
use Rattle.message_codec.specs.Streams.{frame_of}
use Rattle.clip_chunks.specs.Parts.{Part, part, message_of}
use Rattle.clip_chunks.specs.Sending.{full_chunk, chunks_of}
use Rattle.clip_chunks.proofs.Cuts.{first_chunk, no_chunk}
use Rattle.client_talk.specs.Outboxes.{Untaken, has_room, queued, queued_all, Begins, cut_back}
use Rattle.client_talk.specs.Copies.{chunk_messages, clip_messages, copy_messages}

-- ---- what was there before

pub begins-same : (u : Untaken) → Begins u u
begins-same u = ([], sym (append-nil u.bytes))

begins-queued : (m : Msg) (u : Untaken) → Begins u (queued m u)
begins-queued m u = by u.is_slow (has_room u m)
  where
    by : (slow room : Bool) → Begins u (if slow then u else if room then record { bytes = u.bytes ++ frame_of m; is_slow = false } else record { bytes = u.bytes; is_slow = true })
    by true room = begins-same u
    by false true = (frame_of m, refl)
    by false false = ([], sym (append-nil u.bytes))

pub begins-then : (a b c : Untaken) → Begins a b → Begins b c → Begins a c
begins-then a b c (x, is) (y, more) = (x ++ y, more ∙ ap (λ (t : List ℕ). t ++ y) is ∙ append_assoc a.bytes x y)

-- one message was queued, or none
pub begins-part : {A E : Type 0} (r : Result A E) (m : Msg) (old new : Untaken) → OnOk r (new ≡ queued m old) → OnErr r (new ≡ old) → Begins old new
begins-part (Ok x) m old new is same = rw is (begins-queued m old)
begins-part (Err e) m old new is same = rw same (begins-same old)

pub cut-begins : (old new : Untaken) (len : ℕ) → len ≡ length old.bytes → Begins old new → cut_back len old.is_slow new ≡ old
cut-begins old new len long (more, is) =
    let within : len ≤ length old.bytes = omega arith in
    ap (λ (t : List ℕ). record { bytes = t; is_slow = old.is_slow })
    (ap (take len) is ∙ take-append-le len old.bytes more within ∙ take_all len old.bytes (omega arith))

-- ---- chunks

pub more_queued : (clip : ClipId) (seq : ℕ) (bytes front rest : List ℕ) (u v end : Untaken) → bytes ≡ front ++ rest → length front ≡ min full_chunk (length bytes) → 0 < length bytes
    → queued_all (chunk_messages clip seq bytes) u ≡ end → v ≡ queued (message_of (part mark.Chunk clip seq front)) u → queued_all (chunk_messages clip seq rest) v ≡ end
more_queued clip seq bytes front rest u v end is long some so_far next =
    ap (queued_all (chunk_messages clip seq rest)) next
    ∙ ap (λ (cs : List (List ℕ)). queued_all (map message_of (map (part mark.Chunk clip seq) cs)) u) (sym (first_chunk bytes front rest is long some))
    ∙ so_far

pub all_queued : (clip : ClipId) (seq : ℕ) (rest : List ℕ) (u end : Untaken) → length rest ≡ 0 → queued_all (chunk_messages clip seq rest) u ≡ end → u ≡ end
all_queued clip seq rest u end none so_far =
    ap (λ (cs : List (List ℕ)). queued_all (map message_of (map (part mark.Chunk clip seq) cs)) u) (sym (no_chunk rest none)) ∙ so_far

-- ---- a whole clipboard

pub clip_queued : {A E : Type 0} (r : Result A E) (clip : ClipId) (seq : ℕ) (size bytes : List ℕ) (u a b c : Untaken) → size ≡ decimal (length bytes) → a ≡ queued (message_of (part mark.Start clip seq size)) u
    → b ≡ queued_all (chunk_messages clip seq bytes) a → OnOk r (c ≡ queued (message_of (part mark.End clip seq [])) b) → OnOk r (c ≡ queued_all (clip_messages clip seq bytes) u)
clip_queued (Err e) clip seq size bytes u a b c digits start chunks end = tt
clip_queued (Ok x) clip seq size bytes u a b c digits start chunks end =
    let first : Msg = message_of (part mark.Start clip seq (decimal (length bytes))) in
    let last : Msg = message_of (part mark.End clip seq []) in
    let cs : List Part = map (part mark.Chunk clip seq) (chunks_of bytes) in
    let begun : a ≡ queued first u = start ∙ ap (λ (ds : List ℕ). queued (message_of (part mark.Start clip seq ds)) u) digits in
    end
    ∙ ap (queued last) (chunks ∙ ap (queued_all (map message_of cs)) begun)
    ∙ sym (fold-append (λ (v : Untaken) (m : Msg). queued m v) (queued first u) (map message_of cs) (last ∷ []))
    ∙ ap (λ (ms : List Msg). queued_all ms (queued first u)) (sym (map-append message_of cs (part mark.End clip seq [] ∷ [])))

-- ---- both clipboards

pub both_queued : {A E : Type 0} (r : Result A E) (first second : List Msg) (u a b : Untaken) → a ≡ queued_all first u → OnOk r (b ≡ queued_all second a) → OnOk r (b ≡ queued_all (first ++ second) u)
both_queued (Err e) first second u a b one two = tt
both_queued (Ok x) first second u a b one two = two ∙ ap (queued_all second) one ∙ sym (fold-append (λ (v : Untaken) (m : Msg). queued m v) u first second)

-- the copy that is there
pub copy_queued : {A E : Type 0} (r : Result A E) (clip : ClipId) (seq : ℕ) (copy : Option (List ℕ)) (bytes : List ℕ) (u v : Untaken) → Some bytes ≡ copy → OnOk r (v ≡ queued_all (clip_messages clip seq bytes) u) → OnOk r (v ≡ queued_all (copy_messages clip seq copy) u)
copy_queued r clip seq copy bytes u v is queued = rw (← is) queued
