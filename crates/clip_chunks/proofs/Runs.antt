-- The run that is open after parts, and the whole that an end makes of it.
use Rattle.std.proofs.Common.{◌≡◌, ℕ, ◌+◌, ◌≤◌, Bool, true, false, ◌&&◌, cond, List, [], ◌∷◌, ◌++◌}
use Rattle.std.proofs.Common.{length, map, Option, Some, None, refl, sym, ◌∙◌, ap, subst, arith}
use Rattle.std.specs.Prelude.{if◌then◌else◌, ◌==◌, nat_le}
use Rattle.std.proofs.lemmas.List.{length-append}
use Rattle.std.proofs.lemmas.Bool.{leb-true, le-leb, eqb-true, eq-eqb}
use Rattle.share_base.specs.declared.clip_id.ClipId.{ClipId}
use Rattle.share_base.specs.declared.clip_id.ClipId.TheVariants.{Clipboard, Selection}
use Rattle.message_codec.specs.declared.clip_mark.ClipMark.{ClipMark}
use Rattle.message_codec.specs.declared.clip_mark.ClipMark.TheVariants as mark
use Rattle.clip_chunks.specs.declared.run.Run.{Run}
use Rattle.clip_chunks.specs.Parts.{Part, part, same_clip, of_clip}
use Rattle.clip_chunks.specs.Wholes.{size_of}
use Rattle.clip_chunks.specs.OpenRuns.{opens, goes_on, run_after, open_run}

-- the bytes of chunks, the newest first
abbrev pub joined : List (List ℕ) → List ℕ
joined [] = []
joined (c ∷ cs) = joined cs ++ c

-- a start and the chunks after it, the newest first
abbrev pub begun : ClipId → ℕ → List ℕ → List (List ℕ) → List Part → List Part
begun clip seq digits chunks older =
    map (part mark.Chunk clip seq) chunks ++ part mark.Start clip seq digits ∷ older

-- the newest parts are those of the run
pub record IsOpen (limit : ℕ) (clip : ClipId) (r : Run) (parts : List Part) : Type 0 where
  pub chunks : List (List ℕ)
  pub digits : List ℕ
  pub older : List Part
  pub parts_are : parts ≡ begun clip r.seq digits chunks older
  pub size : size_of digits ≡ Some r.size
  pub within : r.size ≤ limit
  pub bytes : r.bytes ≡ joined chunks
  pub fits : length r.bytes ≤ r.size

pub both : (a b : Bool) → (a && b) ≡ true → (a ≡ true) × (b ≡ true)
both true b h = (refl, h)
both false b h = absurd (let x : ⊥ = cc in x)

pub same_clips : (a b : ClipId) → same_clip a b ≡ true → b ≡ a
same_clips Clipboard Clipboard h = refl
same_clips Clipboard Selection h = absurd (let x : ⊥ = cc in x)
same_clips Selection Clipboard h = absurd (let x : ⊥ = cc in x)
same_clips Selection Selection h = refl

pub clip_itself : (clip : ClipId) → same_clip clip clip ≡ true
clip_itself Clipboard = refl
clip_itself Selection = refl

-- ---- a run that is open is what its parts are

after_start : (limit : ℕ) (clip : ClipId) (seq : ℕ) (digits : List ℕ) (older : List Part) (size : ℕ)
    (is : size_of digits ≡ Some size) (r : Run) (b : Bool) (le : nat_le size limit ≡ b)
    → (if b then Some (record { seq = seq; size = size; bytes = [] }) else None) ≡ Some r
    → IsOpen limit clip r (part mark.Start clip seq digits ∷ older)
after_start limit clip seq digits older size is r true le h =
    let new : Run = record { seq = seq; size = size; bytes = [] } in
    let e : new ≡ r = cc in
    let within : size ≤ limit = leb-true size limit le in
    subst (λ (q : Run). IsOpen limit clip q (part mark.Start clip seq digits ∷ older)) e
    (record {
      chunks = [];
      digits = digits;
      older = older;
      parts_are = refl;
      size = is;
      within = within;
      bytes = refl;
      fits = omega arith;
    })
after_start limit clip seq digits older size is r false le h = absurd (let x : ⊥ = cc in x)

start_opens : (limit : ℕ) (clip : ClipId) (seq : ℕ) (digits : List ℕ) (older : List Part)
    (size : Option ℕ) (is : size_of digits ≡ size) (r : Run)
    → opens limit seq size ≡ Some r → IsOpen limit clip r (part mark.Start clip seq digits ∷ older)
start_opens limit clip seq digits older None is r h = absurd (let x : ⊥ = cc in x)
start_opens limit clip seq digits older (Some size) is r h =
    after_start limit clip seq digits older size is r (nat_le size limit) refl h

after_chunk : (limit : ℕ) (clip : ClipId) (seq : ℕ) (bytes : List ℕ) (older : List Part) (q : Run)
    (o : IsOpen limit clip q older) (r : Run) (b : Bool)
    (is : ((q.seq == seq) && nat_le (length q.bytes + length bytes) q.size) ≡ b)
    → (if b then Some (record { seq = q.seq; size = q.size; bytes = q.bytes ++ bytes }) else None)
    ≡ Some r
    → IsOpen limit clip r (part mark.Chunk clip seq bytes ∷ older)
after_chunk limit clip seq bytes older q o r true is h =
    let new : Run = record { seq = q.seq; size = q.size; bytes = q.bytes ++ bytes } in
    let e : new ≡ r = cc in
    let tests = both (q.seq == seq) (nat_le (length q.bytes + length bytes) q.size) is in
    let same : q.seq ≡ seq = eqb-true q.seq seq tests.0 in
    let room : length q.bytes + length bytes ≤ q.size =
    leb-true (length q.bytes + length bytes) q.size tests.1 in
    subst (λ (q : Run). IsOpen limit clip q (part mark.Chunk clip seq bytes ∷ older)) e
    (record {
      chunks = bytes ∷ o.chunks;
      digits = o.digits;
      older = o.older;
      parts_are =
          ap (λ (n : ℕ). part mark.Chunk clip n bytes ∷ older) (sym same)
          ∙ ap (λ (ps : List Part). part mark.Chunk clip q.seq bytes ∷ ps) o.parts_are;
      size = o.size;
      within = o.within;
      bytes = ap (λ (bs : List ℕ). bs ++ bytes) o.bytes;
      fits = omega (arith, room, length-append q.bytes bytes);
    })
after_chunk limit clip seq bytes older q o r false is h = absurd (let x : ⊥ = cc in x)

chunk_goes_on : (limit : ℕ) (clip : ClipId) (seq : ℕ) (bytes : List ℕ) (older : List Part)
    (was : Option Run) (o : (q : Run) → was ≡ Some q → IsOpen limit clip q older) (r : Run)
    → goes_on seq bytes was ≡ Some r → IsOpen limit clip r (part mark.Chunk clip seq bytes ∷ older)
chunk_goes_on limit clip seq bytes older None o r h = absurd (let x : ⊥ = cc in x)
chunk_goes_on limit clip seq bytes older (Some q) o r h =
    after_chunk limit clip seq bytes older q (o q refl) r
    ((q.seq == seq) && nat_le (length q.bytes + length bytes) q.size) refl h

after_part : (limit : ℕ) (clip : ClipId) (m : ClipMark) (seq : ℕ) (bytes : List ℕ)
    (older : List Part)
    (o : (q : Run) → open_run limit older ≡ Some q → IsOpen limit clip q older) (r : Run)
    → run_after limit m seq bytes (open_run limit older) ≡ Some r
    → IsOpen limit clip r (part m clip seq bytes ∷ older)
after_part limit clip mark.Start seq bytes older o r h =
    start_opens limit clip seq bytes older (size_of bytes) refl r h
after_part limit clip mark.Chunk seq bytes older o r h =
    chunk_goes_on limit clip seq bytes older (open_run limit older) o r h
after_part limit clip mark.End seq bytes older o r h = absurd (let x : ⊥ = cc in x)

one_more : (limit : ℕ) (clip : ClipId) (p : Part) (older : List Part)
    (o : (q : Run) → open_run limit older ≡ Some q → IsOpen limit clip q older) (r : Run)
    (b : Bool) (is : same_clip clip p.clip ≡ b)
    → open_run limit (cond b (p ∷ older) older) ≡ Some r
    → IsOpen limit clip r (cond b (p ∷ older) older)
one_more limit clip p older o r true is h =
    subst (λ (c : ClipId). IsOpen limit clip r (part p.mark c p.seq p.bytes ∷ older))
    (sym (same_clips clip p.clip is)) (after_part limit clip p.mark p.seq p.bytes older o r h)
one_more limit clip p older o r false is h = o r h

pub is_open : (limit : ℕ) (clip : ClipId) (parts : List Part) (r : Run)
    → open_run limit (of_clip clip parts) ≡ Some r → IsOpen limit clip r (of_clip clip parts)
is_open limit clip [] r h = absurd (let x : ⊥ = cc in x)
is_open limit clip (p ∷ parts) r h =
    one_more limit clip p (of_clip clip parts) (is_open limit clip parts) r (same_clip clip p.clip)
    refl h

-- ---- parts of a run are open

pub opens_all : (limit : ℕ) (clip : ClipId) (seq size : ℕ) (digits : List ℕ) (older : List Part)
    → size_of digits ≡ Some size → size ≤ limit → (chunks : List (List ℕ))
    → length (joined chunks) ≤ size
    → open_run limit (begun clip seq digits chunks older)
    ≡ Some (record { seq = seq; size = size; bytes = joined chunks })
opens_all limit clip seq size digits older is within [] fits =
    let le : nat_le size limit ≡ true = le-leb size limit within in
    ap (opens limit seq) is
    ∙ ap
    (λ (b : Bool). if b then Some (record { seq = seq; size = size; bytes = [] }) else None)
    le
opens_all limit clip seq size digits older is within (c ∷ cs) fits =
    let all : length (joined cs ++ c) ≡ length (joined cs) + length c =
    length-append (joined cs) c in
    let before =
    opens_all limit clip seq size digits older is within cs (omega (arith, all, fits)) in
    let same : (seq == seq) ≡ true = eq-eqb seq seq refl in
    let room : nat_le (length (joined cs) + length c) size ≡ true =
    le-leb (length (joined cs) + length c) size (omega (arith, all, fits)) in
    ap (goes_on seq c) before
    ∙ ap
    (λ (b : Bool). if (b && nat_le (length (joined cs) + length c) size)
    then Some (record { seq = seq; size = size; bytes = joined cs ++ c }) else None)
    same
    ∙ ap
    (λ (b : Bool). if b then Some (record { seq = seq; size = size; bytes = joined cs ++ c })
    else None)
    room
