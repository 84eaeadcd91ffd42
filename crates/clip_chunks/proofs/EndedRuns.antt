-- The whole that a part ends is the one that it was said to end.
use Rattle.std.proofs.Common.{◌≡◌, ℕ, ◌≤◌, Bool, true, false, ◌&&◌, cond, List, [], ◌∷◌, ◌++◌}
use Rattle.std.proofs.Common.{length, map, Option, Some, None, refl, sym, ◌∙◌, ap, arith}
use Rattle.std.specs.Prelude.{if◌then◌else◌, ◌==◌, reverse}
use Rattle.std.specs.List.{concat}
use Rattle.std.proofs.lemmas.List.{append_assoc, append-nil, map-append, reverse-append}
use Rattle.std.proofs.lemmas.List.{reverse-reverse}
use Rattle.std.proofs.lemmas.Bool.{eqb-true, eq-eqb}
use Rattle.share_base.specs.declared.clip_id.ClipId.{ClipId}
use Rattle.message_codec.specs.declared.clip_mark.ClipMark.{ClipMark}
use Rattle.message_codec.specs.declared.clip_mark.ClipMark.TheVariants as mark
use Rattle.clip_chunks.specs.declared.run.Run.{Run}
use Rattle.clip_chunks.specs.Parts.{Part, part, run, of_clip}
use Rattle.clip_chunks.specs.Wholes.{size_of, EndsWhole}
use Rattle.clip_chunks.specs.OpenRuns.{open_run, closes, whole_by, whole_at}
use Rattle.clip_chunks.proofs.Runs.{joined, begun, IsOpen, both, clip_itself, is_open, opens_all}

concat_push : (cs : List (List ℕ)) (c : List ℕ) → concat (cs ++ c ∷ []) ≡ concat cs ++ c
concat_push [] c = append-nil c
concat_push (d ∷ cs) c =
    ap (λ (bs : List ℕ). d ++ bs) (concat_push cs c) ∙ sym (append_assoc d (concat cs) c)

-- ---- the newest first, and the oldest first

reverse_cons : {A : Type 0} (x : A) (xs : List A) → reverse (x ∷ xs) ≡ reverse xs ++ x ∷ []
reverse_cons x xs = reverse-append (x ∷ []) xs

joined_is : (cs : List (List ℕ)) → joined cs ≡ concat (reverse cs)
joined_is [] = refl
joined_is (c ∷ cs) =
    ap (λ (bs : List ℕ). bs ++ c) (joined_is cs) ∙ sym (concat_push (reverse cs) c)
    ∙ ap concat (sym (reverse_cons c cs))

pub joined-reverse : (cs : List (List ℕ)) → joined (reverse cs) ≡ concat cs
joined-reverse cs = joined_is (reverse cs) ∙ ap concat (reverse-reverse cs)

reverse-map : (f : List ℕ → Part) (cs : List (List ℕ)) → reverse (map f cs) ≡ map f (reverse cs)
reverse-map f [] = refl
reverse-map f (c ∷ cs) =
    reverse_cons (f c) (map f cs) ∙ ap (λ (ps : List Part). ps ++ f c ∷ []) (reverse-map f cs)
    ∙ sym (map-append f (reverse cs) (c ∷ [])) ∙ ap (map f) (sym (reverse_cons c cs))

pub turned : (clip : ClipId) (seq : ℕ) (digits : List ℕ) (chunks : List (List ℕ))
    (older : List Part) (ignored : List ℕ)
    → reverse (part mark.End clip seq ignored ∷ begun clip seq digits chunks older)
    ≡ reverse older ++ run clip seq digits (reverse chunks) ignored
turned clip seq digits chunks older ignored =
    let f : List ℕ → Part = part mark.Chunk clip seq in
    let start : Part = part mark.Start clip seq digits in
    let last : List Part = part mark.End clip seq ignored ∷ [] in
    reverse_cons (part mark.End clip seq ignored) (map f chunks ++ start ∷ older)
    ∙ ap (λ (ps : List Part). ps ++ last)
    (reverse-append (map f chunks) (start ∷ older)
    ∙ ap (λ (ps : List Part). ps ++ reverse (map f chunks)) (reverse_cons start older)
    ∙ ap (λ (ps : List Part). (reverse older ++ start ∷ []) ++ ps) (reverse-map f chunks))
    ∙ append_assoc (reverse older ++ start ∷ []) (map f (reverse chunks)) last
    ∙ append_assoc (reverse older) (start ∷ []) (map f (reverse chunks) ++ last)

-- a part is among its own clipboard's
pub own_first : (p : Part) (older : List Part)
    → of_clip p.clip (p ∷ older) ≡ p ∷ of_clip p.clip older
own_first p older =
    ap (λ (b : Bool). cond b (p ∷ of_clip p.clip older) (of_clip p.clip older)) (clip_itself p.clip)

-- ---- what is found is a whole

closed_whole : (limit : ℕ) (bytes : List ℕ) (clip : ClipId) (seq : ℕ) (ignored : List ℕ)
    (older : List Part) (r : Run) (o : IsOpen limit clip r (of_clip clip older)) (b : Bool)
    (is : ((r.seq == seq) && (length r.bytes == r.size)) ≡ b)
    → (if b then Some r.bytes else None) ≡ Some bytes
    → EndsWhole limit bytes (part mark.End clip seq ignored) older
closed_whole limit bytes clip seq ignored older r o true is h =
    let tests = both (r.seq == seq) (length r.bytes == r.size) is in
    let same : r.seq ≡ seq = eqb-true r.seq seq tests.0 in
    let all : length r.bytes ≡ r.size = eqb-true (length r.bytes) r.size tests.1 in
    let e : r.bytes ≡ bytes = cc in
    let size : length bytes ≡ r.size = ap length (sym e) ∙ all in
    let within : length bytes ≤ limit = omega (arith, size, o.within) in
    let newest : Part = part mark.End clip seq ignored in
    let is_run : of_clip clip older ≡ begun clip seq o.digits o.chunks o.older =
    o.parts_are ∙ ap (λ (n : ℕ). begun clip n o.digits o.chunks o.older) same in
    record {
      before = reverse o.older;
      parts = run clip seq o.digits (reverse o.chunks) ignored;
      last =
          ap reverse (own_first newest older ∙ ap (λ (ps : List Part). newest ∷ ps) is_run)
          ∙ turned clip seq o.digits o.chunks o.older ignored;
      whole = record {
        digits = o.digits;
        chunks = reverse o.chunks;
        ignored = ignored;
        parts_are = refl;
        size = o.size ∙ ap Some (sym size);
        within = within;
        bytes_are = sym e ∙ o.bytes ∙ joined_is o.chunks;
      };
    }
closed_whole limit bytes clip seq ignored older r o false is h = absurd (let x : ⊥ = cc in x)

closes_whole : (limit : ℕ) (bytes : List ℕ) (clip : ClipId) (seq : ℕ) (ignored : List ℕ)
    (older : List Part) (was : Option Run)
    (o : (r : Run) → was ≡ Some r → IsOpen limit clip r (of_clip clip older))
    → closes seq was ≡ Some bytes → EndsWhole limit bytes (part mark.End clip seq ignored) older
closes_whole limit bytes clip seq ignored older None o h = absurd (let x : ⊥ = cc in x)
closes_whole limit bytes clip seq ignored older (Some r) o h =
    closed_whole limit bytes clip seq ignored older r (o r refl)
    ((r.seq == seq) && (length r.bytes == r.size)) refl h

ends_by : (limit : ℕ) (bytes : List ℕ) (m : ClipMark) (clip : ClipId) (seq : ℕ) (ignored : List ℕ)
    (older : List Part)
    → whole_by m seq (open_run limit (of_clip clip older)) ≡ Some bytes
    → EndsWhole limit bytes (part m clip seq ignored) older
ends_by limit bytes mark.Start clip seq ignored older h = absurd (let x : ⊥ = cc in x)
ends_by limit bytes mark.Chunk clip seq ignored older h = absurd (let x : ⊥ = cc in x)
ends_by limit bytes mark.End clip seq ignored older h =
    closes_whole limit bytes clip seq ignored older (open_run limit (of_clip clip older))
    (is_open limit clip older) h

pub ends_whole : (limit : ℕ) (bytes : List ℕ) (newest : Part) (older : List Part)
    → whole_at limit newest older ≡ Some bytes → EndsWhole limit bytes newest older
ends_whole limit bytes newest older h =
    ends_by limit bytes newest.mark newest.clip newest.seq newest.bytes older h

-- ---- and a whole is found

closes_all : (limit : ℕ) (clip : ClipId) (seq : ℕ) (bytes digits : List ℕ) (chunks : List (List ℕ))
    (older : List Part)
    → size_of digits ≡ Some (length bytes) → length bytes ≤ limit → bytes ≡ concat chunks
    → closes seq (open_run limit (begun clip seq digits (reverse chunks) older)) ≡ Some bytes
closes_all limit clip seq bytes digits chunks older size within is =
    let got : joined (reverse chunks) ≡ bytes = joined-reverse chunks ∙ sym is in
    let long : length (joined (reverse chunks)) ≡ length bytes = ap length got in
    let run =
    opens_all limit clip seq (length bytes) digits older size within (reverse chunks)
    (omega (arith, long)) in
    let same : (seq == seq) ≡ true = eq-eqb seq seq refl in
    let all : (length (joined (reverse chunks)) == length bytes) ≡ true =
    eq-eqb (length (joined (reverse chunks))) (length bytes) long in
    ap (closes seq) run
    ∙ ap
    (λ (b : Bool). if (b && (length (joined (reverse chunks)) == length bytes))
    then Some (joined (reverse chunks)) else None)
    same
    ∙ ap (λ (b : Bool). if b then Some (joined (reverse chunks)) else None) all
    ∙ ap Some got

pub whole_found : (limit : ℕ) (bytes : List ℕ) (newest : Part) (older : List Part)
    → EndsWhole limit bytes newest older → whole_at limit newest older ≡ Some bytes
whole_found limit bytes newest older e =
    let w = e.whole in
    let end : Part = part mark.End newest.clip newest.seq w.ignored in
    let parts : List Part =
    begun newest.clip newest.seq w.digits (reverse w.chunks) (reverse e.before) in
    let there : reverse (end ∷ parts)
    ≡ e.before ++ run newest.clip newest.seq w.digits w.chunks w.ignored =
    turned newest.clip newest.seq w.digits (reverse w.chunks) (reverse e.before) w.ignored
    ∙ ap
    (λ (ps : List Part). ps
    ++ run newest.clip newest.seq w.digits (reverse (reverse w.chunks)) w.ignored)
    (reverse-reverse e.before)
    ∙ ap (λ (cs : List (List ℕ)). e.before ++ run newest.clip newest.seq w.digits cs w.ignored)
    (reverse-reverse w.chunks) in
    let here : reverse (newest ∷ of_clip newest.clip older)
    ≡ e.before ++ run newest.clip newest.seq w.digits w.chunks w.ignored =
    ap reverse (sym (own_first newest older)) ∙ e.last
    ∙ ap (λ (ps : List Part). e.before ++ ps) w.parts_are in
    let same : newest ∷ of_clip newest.clip older ≡ end ∷ parts =
    sym (reverse-reverse (newest ∷ of_clip newest.clip older)) ∙ ap reverse (here ∙ sym there)
    ∙ reverse-reverse (end ∷ parts) in
    let first : newest ≡ end = cc in
    let rest : of_clip newest.clip older ≡ parts = cc in
    let is_end : newest.mark ≡ mark.End = ap (λ (p : Part). p.mark) first in
    ap (λ (m : ClipMark). whole_by m newest.seq (open_run limit (of_clip newest.clip older))) is_end
    ∙ ap (λ (ps : List Part). closes newest.seq (open_run limit ps)) rest
    ∙ closes_all limit newest.clip newest.seq bytes w.digits w.chunks (reverse e.before) w.size
    w.within w.bytes_are
