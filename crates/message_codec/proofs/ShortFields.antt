-- Reading fails exactly at the first part that doesn't fit.
use Rattle.std.proofs.Common.{◌≡◌, ℕ, ℤ, zero, suc, ◌^◌, ◌<◌, Bool, true, false, cond, ltb, List}
use Rattle.std.proofs.Common.{[], ◌∷◌, ◌++◌, length, map, take, drop, Result, Ok, Err, refl, sym}
use Rattle.std.proofs.Common.{ap, ◌∙◌, append_assoc, arith, inl, inr}
use Rattle.std.specs.Prelude.{◌⊎◌}
use Rattle.std.specs.List.{flat_map, AllByRecursion}
use Rattle.std.specs.Int.{Width, w16, w32, byte_len, from_be_bytes, to_be_bytes, cast_signed}
use Rattle.std.proofs.lemmas.Bool.{ltb-true, lt-ltb, le-ltb}
use Rattle.std.proofs.lemmas.List.{take_at, drop_at, length-append}
use Rattle.std.proofs.lemmas.List.Concat.{flat_map-cons}
use Rattle.wire_frames.proofs.First.{IsBytes}
use Rattle.message_codec.specs.Kinds.{Kind}
use Rattle.message_codec.specs.Kinds as kind
use Rattle.message_codec.specs.Fields.{Field, Byte, Half, Signed, Word, Clip, Mark, Text, Words}
use Rattle.message_codec.specs.Fields.{kind_of, spelled, Fits, spelled_all}
use Rattle.message_codec.specs.Reading.{Read, ◌>>=◌, number_at, signed_at, byte_at, text_at}
use Rattle.message_codec.specs.Reading.{words_at, read_field, read_fields}
use Rattle.message_codec.specs.Refusals.{LacksFirst, Lacks}
use Rattle.message_codec.proofs.Readers.{IsWide, wide32, word_reader}
use Rattle.message_codec.proofs.FieldLaws.{field_takes, field_again}

abbrev failed : {A : Type 0} → ℕ → Result A ℕ
failed d = Err d

err_is : {A : Type 0} (a b : ℕ) → failed {A = A} a ≡ failed {A = A} b → a ≡ b
err_is a b e = cc

retag : {A B : Type 0} (a b : ℕ) → failed {A = B} a ≡ failed {A = B} b
    → failed {A = A} a ≡ failed {A = A} b
retag {A} {B} a b e = ap (λ (n : ℕ). failed {A = A} n) (err_is {A = B} a b e)

-- a step that failed, or the one after it did
bind_err : {A B : Type 0} (r : Result A ℕ) (f : A → Result B ℕ) (d : ℕ) → (r >>= f) ≡ Err d
    → (r ≡ Err d) ⊎ ((x : A) × (r ≡ Ok x) × (f x ≡ Err d))
bind_err {A} {B} (Ok x) f d e = inr (x, refl, e)
bind_err {A} {B} (Err a) f d e = inl (retag {A = A} {B = B} a d e)

guard_err : {A : Type 0} (b : Bool) (d e : ℕ) (x : A) → cond b (failed {A = A} d) (Ok x) ≡ failed e
    → (b ≡ true) × (d ≡ e)
guard_err true d e x h = (refl, cc)
guard_err false d e x h = absurd cc

-- ---- what is there where reading fails

-- bytes are whole parts of a field, and then too few for its next part
record EndsIn (k : Kind) (bytes : List ℕ) (count : ℕ) : Type 0 where
  parts : List ℕ
  left : List ℕ
  bytes_are : bytes ≡ parts ++ left
  lacks : Lacks k parts left
  count_is : count ≡ length left

none_yet : (k : Kind) (size : ℕ) (bytes : List ℕ) (d : ℕ)
    → (LacksFirst size [] bytes → Lacks k [] bytes) → (length bytes < size) × (d ≡ length bytes)
    → EndsIn k bytes d
none_yet k size bytes d to short =
    record {
      parts = [];
      left = bytes;
      bytes_are = refl;
      lacks = to (refl, short.0);
      count_is = short.1;
    }

number_lacks : (w : Width) (bytes : List ℕ) (d : ℕ) → number_at w bytes ≡ Err d
    → (length bytes < byte_len w) × (d ≡ length bytes)
number_lacks w bytes d e =
    let g =
    guard_err (ltb (length bytes) (byte_len w)) (length bytes) d
    (from_be_bytes w (take (byte_len w) bytes), drop (byte_len w) bytes) e in
    (ltb-true _ _ g.0, sym g.1)

byte_lacks : (bytes : List ℕ) (d : ℕ) → byte_at bytes ≡ Err d
    → (length bytes < 1) × (d ≡ length bytes)
byte_lacks [] d e = (omega arith, cc)
byte_lacks (n ∷ rest) d e = absurd cc

signed_lacks : (bytes : List ℕ) (d : ℕ) → signed_at bytes ≡ Err d
    → (length bytes < 2) × (d ≡ length bytes)
signed_lacks bytes d e =
    elim (bind_err (number_at w16 bytes) (λ n. Ok (cast_signed w16 n.0, n.1)) d e) [
      | inl h ↦ number_lacks w16 bytes d h
      | inr s ↦ let made = s.2 in absurd cc
    ]

abbrev making : {A : Type 0} → (A → Field) → A × List ℕ → Read Field
making make x = Ok (make x.0, x.1)

-- a field that is made of what a reader gives
made_lacks : {A : Type 0} (read : List ℕ → Read A) (make : A → Field) (k : Kind) (bytes : List ℕ)
    (d : ℕ)
    → (read bytes ≡ Err d → EndsIn k bytes d) → (read bytes >>= making make) ≡ Err d
    → EndsIn k bytes d
made_lacks read make k bytes d to e =
    elim (bind_err (read bytes) (making make) d e) [
      | inl h ↦ to h
      | inr s ↦ let made = s.2 in absurd cc
    ]

text_lacks : (bytes : List ℕ) (d : ℕ) → IsBytes bytes → text_at bytes ≡ Err d
    → EndsIn kind.text bytes d
unfolding text_at
text_lacks bytes d small e =
    elim
    (bind_err (number_at w32 bytes)
    (λ n. cond (ltb (length n.1) n.0) (Err (length n.1)) (Ok (take n.0 n.1, drop n.0 n.1)))
    d e) [
      | inl h ↦ none_yet kind.text 4 bytes d (λ x. inl x) (number_lacks w32 bytes d h)
      | inr s ↦
          let n = s.0 in
          let t = word_reader.takes bytes n small s.1 in
          let g =
          guard_err (ltb (length n.1) n.0) (length n.1) d (take n.0 n.1, drop n.0 n.1) s.2 in
          record {
            parts = to_be_bytes w32 n.0;
            left = n.1;
            bytes_are = t.0.parts;
            lacks = inr (n.0, t.1, refl, ltb-true _ _ g.0);
            count_is = sym g.1;
          }
    ]

-- so many words were to come, and fewer are there
record WordsEnd (k : ℕ) (bytes : List ℕ) (count : ℕ) : Type 0 where
  ns : List ℕ
  left : List ℕ
  bytes_are : bytes ≡ flat_map (to_be_bytes w32) ns ++ left
  few : length ns < k
  short : length left < 4
  count_is : count ≡ length left

words_lack : (k : ℕ) (bytes : List ℕ) (d : ℕ) → IsBytes bytes → words_at k bytes ≡ Err d
    → WordsEnd k bytes d
unfolding words_at
words_lack zero bytes d small e = absurd cc
words_lack (suc k) bytes d small e =
    elim (bind_err (number_at w32 bytes) (λ n. words_at k n.1 >>= λ ns. Ok (n.0 ∷ ns.0, ns.1)) d e) [
      | inl h ↦ let l =
          number_lacks w32 bytes d h in
          record {
            ns = [];
            left = bytes;
            bytes_are = refl;
            few = omega arith;
            short = l.0;
            count_is = l.1;
          }
      | inr s ↦ elim (bind_err (words_at k s.0.1) (λ ns. Ok (s.0.0 ∷ ns.0, ns.1)) d s.2) [
        | inl h ↦
            let n = s.0 in
            let t = word_reader.takes bytes n small s.1 in
            let r = words_lack k n.1 d t.0.rest_fits h in
            record {
              ns = n.0 ∷ r.ns;
              left = r.left;
              bytes_are =
                  t.0.parts ∙ ap (λ (b : List ℕ). to_be_bytes w32 n.0 ++ b) r.bytes_are
                  ∙ sym
                  (append_assoc (to_be_bytes w32 n.0) (flat_map (to_be_bytes w32) r.ns) r.left)
                  ∙ ap (λ (b : List ℕ). b ++ r.left)
                  (sym (flat_map-cons (to_be_bytes w32) n.0 r.ns));
              few = omega (arith, r.few);
              short = r.short;
              count_is = r.count_is;
            }
        | inr q ↦ let made = q.2 in absurd cc
      ]
    ]

list_lacks : (bytes : List ℕ) (d : ℕ) → IsBytes bytes → read_field kind.words bytes ≡ Err d
    → EndsIn kind.words bytes d
list_lacks bytes d small e =
    elim (bind_err (number_at w32 bytes) (λ n. words_at n.0 n.1 >>= λ x. Ok (Words x.0, x.1)) d e) [
      | inl h ↦ none_yet kind.words 4 bytes d (λ x. inl x) (number_lacks w32 bytes d h)
      | inr s ↦ elim (bind_err (words_at s.0.0 s.0.1) (λ x. Ok (Words x.0, x.1)) d s.2) [
        | inl h ↦
            let n = s.0 in
            let t = word_reader.takes bytes n small s.1 in
            let r = words_lack n.0 n.1 d t.0.rest_fits h in
            record {
              parts = to_be_bytes w32 n.0 ++ flat_map (to_be_bytes w32) r.ns;
              left = r.left;
              bytes_are =
                  t.0.parts ∙ ap (λ (b : List ℕ). to_be_bytes w32 n.0 ++ b) r.bytes_are
                  ∙ sym
                  (append_assoc (to_be_bytes w32 n.0) (flat_map (to_be_bytes w32) r.ns) r.left);
              lacks = inr (n.0, r.ns, t.1, refl, r.few, r.short);
              count_is = r.count_is;
            }
        | inr q ↦ let made = q.2 in absurd cc
      ]
    ]

field_lacks : (k : Kind) (bytes : List ℕ) (d : ℕ) → IsBytes bytes → read_field k bytes ≡ Err d
    → EndsIn k bytes d
field_lacks kind.byte bytes d small e =
    made_lacks byte_at (λ n. Byte n) kind.byte bytes d
    (λ h. none_yet kind.byte 1 bytes d (λ x. x) (byte_lacks bytes d h)) e
field_lacks kind.clip bytes d small e =
    made_lacks byte_at (λ n. Clip n) kind.clip bytes d
    (λ h. none_yet kind.clip 1 bytes d (λ x. x) (byte_lacks bytes d h)) e
field_lacks kind.mark bytes d small e =
    made_lacks byte_at (λ n. Mark n) kind.mark bytes d
    (λ h. none_yet kind.mark 1 bytes d (λ x. x) (byte_lacks bytes d h)) e
field_lacks kind.half bytes d small e =
    made_lacks (number_at w16) (λ n. Half n) kind.half bytes d
    (λ h. none_yet kind.half 2 bytes d (λ x. x) (number_lacks w16 bytes d h)) e
field_lacks kind.signed bytes d small e =
    made_lacks signed_at (λ z. Signed z) kind.signed bytes d
    (λ h. none_yet kind.signed 2 bytes d (λ x. x) (signed_lacks bytes d h)) e
field_lacks kind.word bytes d small e =
    made_lacks (number_at w32) (λ n. Word n) kind.word bytes d
    (λ h. none_yet kind.word 4 bytes d (λ x. x) (number_lacks w32 bytes d h)) e
field_lacks kind.text bytes d small e =
    made_lacks text_at (λ t. Text t) kind.text bytes d (text_lacks bytes d small) e
field_lacks kind.words bytes d small e = list_lacks bytes d small e

-- whole fields, whole parts of the next one, and then too few bytes for its next part
pub record EndsEarly (ks : List Kind) (bytes : List ℕ) (count : ℕ) : Type 0 where
  pub whole : List Field
  pub next : Kind
  pub later : List Kind
  pub parts : List ℕ
  pub left : List ℕ
  pub row : ks ≡ map kind_of whole ++ next ∷ later
  pub fits : AllByRecursion Fits whole
  pub bytes_are : bytes ≡ spelled_all whole ++ (parts ++ left)
  pub lacks : Lacks next parts left
  pub count_is : count ≡ length left

regrouped : (f : Field) (fs : List Field) (rest : List ℕ)
    → spelled_all (f ∷ fs) ++ rest ≡ spelled f ++ (spelled_all fs ++ rest)
regrouped f fs rest =
    ap (λ (t : List ℕ). t ++ rest) (flat_map-cons spelled f fs)
    ∙ append_assoc (spelled f) (spelled_all fs) rest

pub fields_lack : (ks : List Kind) (bytes : List ℕ) (d : ℕ) → IsBytes bytes
    → read_fields ks bytes ≡ Err d → EndsEarly ks bytes d
unfolding read_fields
fields_lack [] bytes d small e = absurd cc
fields_lack (k ∷ ks) bytes d small e =
    elim
    (bind_err (read_field k bytes) (λ f. read_fields ks f.1 >>= λ fs. Ok (f.0 ∷ fs.0, fs.1)) d
    e) [
      | inl h ↦ let r =
          field_lacks k bytes d small h in
          record {
            whole = [];
            next = k;
            later = ks;
            parts = r.parts;
            left = r.left;
            row = refl;
            fits = tt;
            bytes_are = r.bytes_are;
            lacks = r.lacks;
            count_is = r.count_is;
          }
      | inr s ↦ elim (bind_err (read_fields ks s.0.1) (λ fs. Ok (s.0.0 ∷ fs.0, fs.1)) d s.2) [
        | inl h ↦
            let f = s.0 in
            let t = field_takes k bytes f small s.1 in
            let r = fields_lack ks f.1 d t.taken.rest_fits h in
            record {
              whole = f.0 ∷ r.whole;
              next = r.next;
              later = r.later;
              parts = r.parts;
              left = r.left;
              row =
                  ap (λ (c : Kind). c ∷ ks) (sym t.kind)
                  ∙ ap (λ (cs : List Kind). kind_of f.0 ∷ cs) r.row;
              fits = (t.fits, r.fits);
              bytes_are =
                  t.taken.parts ∙ ap (λ (b : List ℕ). spelled f.0 ++ b) r.bytes_are
                  ∙ sym (regrouped f.0 r.whole (r.parts ++ r.left));
              lacks = r.lacks;
              count_is = r.count_is;
            }
        | inr q ↦ let made = q.2 in absurd cc
      ]
    ]

-- ---- reading fails there

number_lacking : (w : Width) (bytes : List ℕ) → length bytes < byte_len w
    → number_at w bytes ≡ Err (length bytes)
number_lacking w bytes lt =
    let short : ltb (length bytes) (byte_len w) ≡ true = lt-ltb _ _ lt in rw short refl

byte_lacking : (bytes : List ℕ) → length bytes < 1 → byte_at bytes ≡ Err (length bytes)
byte_lacking [] lt = refl
byte_lacking (n ∷ rest) lt = absurd (omega arith)

-- some number stands at the front
number_front : (w : Width) (limit : ℕ) (wide : IsWide w limit) (n : ℕ) (rest : List ℕ)
    → number_at w (to_be_bytes w n ++ rest) ≡ Ok (from_be_bytes w (to_be_bytes w n), rest)
number_front w limit wide n rest =
    let len = wide.len n in
    let long : ltb (length (to_be_bytes w n ++ rest)) (byte_len w) ≡ false =
    le-ltb _ _ (omega (arith, length-append (to_be_bytes w n) rest)) in
    rw (
      long,
      take_at (to_be_bytes w n) rest (byte_len w) len,
      drop_at (to_be_bytes w n) rest (byte_len w) len,
    )
    refl

words_lacking : (k : ℕ) (ns left : List ℕ) → length ns < k → length left < 4
    → words_at k (flat_map (to_be_bytes w32) ns ++ left) ≡ Err (length left)
unfolding words_at
words_lacking zero ns left few short = absurd (omega arith)
words_lacking (suc k) [] left few short = rw (number_lacking w32 left short) refl
words_lacking (suc k) (n ∷ ns) left few short =
    let front : flat_map (to_be_bytes w32) (n ∷ ns) ++ left
    ≡ to_be_bytes w32 n ++ (flat_map (to_be_bytes w32) ns ++ left) =
    ap (λ (t : List ℕ). t ++ left) (flat_map-cons (to_be_bytes w32) n ns)
    ∙ append_assoc (to_be_bytes w32 n) (flat_map (to_be_bytes w32) ns) left in
    ap (words_at (suc k)) front
    ∙ rw (
      number_front w32 (2 ^ 32) wide32 n (flat_map (to_be_bytes w32) ns ++ left),
      words_lacking k ns left (omega arith) short,
    )
    refl

text_lacking : (n : ℕ) (left : List ℕ) → n < 2 ^ 32 → length left < n
    → text_at (to_be_bytes w32 n ++ left) ≡ Err (length left)
unfolding text_at
text_lacking n left lt few =
    let short : ltb (length left) n ≡ true = lt-ltb _ _ few in
    rw (word_reader.again n left lt, short) refl

no_length : (left : List ℕ) → length left < 4 → text_at left ≡ Err (length left)
unfolding text_at
no_length left lt = rw (number_lacking w32 left lt) refl

list_lacking : (n : ℕ) (ns left : List ℕ) → n < 2 ^ 32 → length ns < n → length left < 4
    → read_field kind.words ((to_be_bytes w32 n ++ flat_map (to_be_bytes w32) ns) ++ left)
    ≡ Err (length left)
list_lacking n ns left lt few short =
    ap (read_field kind.words)
    (append_assoc (to_be_bytes w32 n) (flat_map (to_be_bytes w32) ns) left)
    ∙ ap (λ (o : Read ℕ). o >>= λ m. words_at m.0 m.1 >>= λ x. Ok (Words x.0, x.1))
    (word_reader.again n (flat_map (to_be_bytes w32) ns ++ left) lt)
    ∙ ap (λ (o : Read (List ℕ)). o >>= λ x. Ok (Words x.0, x.1)) (words_lacking n ns left few short)

abbrev signed_of : Read ℕ → Read ℤ
signed_of read = read >>= λ n. Ok (cast_signed w16 n.0, n.1)

at_first : (k : Kind) (parts left : List ℕ) → parts ≡ [] → read_field k left ≡ Err (length left)
    → read_field k (parts ++ left) ≡ Err (length left)
at_first k parts left none fails = ap (λ (t : List ℕ). read_field k (t ++ left)) none ∙ fails

field_lacking : (k : Kind) (parts left : List ℕ) → Lacks k parts left
    → read_field k (parts ++ left) ≡ Err (length left)
field_lacking kind.byte parts left h =
    at_first kind.byte parts left h.0
    (ap (λ (o : Read ℕ). o >>= λ x. Ok (Byte x.0, x.1)) (byte_lacking left h.1))
field_lacking kind.clip parts left h =
    at_first kind.clip parts left h.0
    (ap (λ (o : Read ℕ). o >>= λ x. Ok (Clip x.0, x.1)) (byte_lacking left h.1))
field_lacking kind.mark parts left h =
    at_first kind.mark parts left h.0
    (ap (λ (o : Read ℕ). o >>= λ x. Ok (Mark x.0, x.1)) (byte_lacking left h.1))
field_lacking kind.half parts left h =
    at_first kind.half parts left h.0
    (ap (λ (o : Read ℕ). o >>= λ x. Ok (Half x.0, x.1)) (number_lacking w16 left h.1))
field_lacking kind.signed parts left h =
    at_first kind.signed parts left h.0
    (ap (λ (o : Read ℕ). signed_of o >>= λ x. Ok (Signed x.0, x.1)) (number_lacking w16 left h.1))
field_lacking kind.word parts left h =
    at_first kind.word parts left h.0
    (ap (λ (o : Read ℕ). o >>= λ x. Ok (Word x.0, x.1)) (number_lacking w32 left h.1))
field_lacking kind.text parts left (inl h) =
    at_first kind.text parts left h.0
    (ap (λ (o : Read (List ℕ)). o >>= λ x. Ok (Text x.0, x.1)) (no_length left h.1))
field_lacking kind.text parts left (inr h) =
    ap (λ (t : List ℕ). read_field kind.text (t ++ left)) h.2
    ∙ ap (λ (o : Read (List ℕ)). o >>= λ x. Ok (Text x.0, x.1)) (text_lacking h.0 left h.1 h.3)
field_lacking kind.words parts left (inl h) =
    at_first kind.words parts left h.0
    (ap (λ (o : Read ℕ). o >>= λ n. words_at n.0 n.1 >>= λ x. Ok (Words x.0, x.1))
    (number_lacking w32 left h.1))
field_lacking kind.words parts left (inr h) =
    ap (λ (t : List ℕ). read_field kind.words (t ++ left)) h.3
    ∙ list_lacking h.0 h.1 left h.2 h.4 h.5

pub fields_lacking : (whole : List Field) (next : Kind) (later : List Kind) (parts left : List ℕ)
    → AllByRecursion Fits whole → Lacks next parts left
    → read_fields (map kind_of whole ++ next ∷ later) (spelled_all whole ++ (parts ++ left))
    ≡ Err (length left)
unfolding read_fields
fields_lacking [] next later parts left fits lacks =
    ap (λ (o : Read Field). o >>= λ f. read_fields later f.1 >>= λ fs. Ok (f.0 ∷ fs.0, fs.1))
    (field_lacking next parts left lacks)
fields_lacking (f ∷ fs) next later parts left fits lacks =
    let ks : List Kind = map kind_of fs ++ next ∷ later in
    let rest : List ℕ = parts ++ left in
    ap
    (λ (t : List ℕ). read_field (kind_of f) t >>= λ x. read_fields ks x.1
    >>= λ y. Ok (x.0 ∷ y.0, y.1))
    (regrouped f fs rest)
    ∙ ap (λ (o : Read Field). o >>= λ x. read_fields ks x.1 >>= λ y. Ok (x.0 ∷ y.0, y.1))
    (field_again f (spelled_all fs ++ rest) fits.0)
    ∙ ap (λ (o : Read (List Field)). o >>= λ y. Ok (f ∷ y.0, y.1))
    (fields_lacking fs next later parts left fits.1 lacks)
