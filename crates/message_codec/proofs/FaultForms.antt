-- What reading finds is what the definitions say, and what they say is found.
use Rattle.std.proofs.Common.{◌≡◌, ℕ, ◌+◌, ◌-◌, ◌≤◌, List, [], ◌++◌, length, drop, Ok, Err, sym, ap}
use Rattle.std.proofs.Common.{subst, ◌∙◌, arith}
use Rattle.std.proofs.lemmas.List.{length-append}
use Rattle.wire_frames.proofs.First.{IsBytes}
use Rattle.message_codec.specs.declared.messages.End.{End}
use Rattle.message_codec.specs.declared.coding.Code.{Code}
use Rattle.message_codec.specs.declared.faults.BadBody.{BadBody}
use Rattle.message_codec.specs.declared.faults.BadBody.TheVariants as bad
use Rattle.message_codec.specs.Kinds.{Kind}
use Rattle.message_codec.specs.Fields.{Field, spelled_all}
use Rattle.message_codec.specs.Reading.{read_fields}
use Rattle.message_codec.specs.Table.{text, kinds}
use Rattle.message_codec.specs.Refusals.{IsShort, Whole, Refuses}
use Rattle.message_codec.proofs.CodeTexts.{drop-text}
use Rattle.message_codec.proofs.Readers.{IsBytes-drop}
use Rattle.message_codec.proofs.FieldLaws.{fields_take, fields_again}
use Rattle.message_codec.proofs.ReadFaults.{Reads, Faults}
use Rattle.message_codec.proofs.ShortFields.{fields_lack, fields_lacking}

after_small : (from : End) (body : List ℕ) (c : Code) (after : List ℕ) → IsBytes body
    → body ≡ text c ++ after → IsBytes after
after_small from body c after small begins =
    subst IsBytes (ap (drop (length (text c))) begins ∙ drop-text c after)
    (IsBytes-drop (length (text c)) body small)

length-parts : (a b c d : List ℕ)
    → length (a ++ (b ++ (c ++ d))) ≡ length a + length b + length c + length d
length-parts a b c d =
    omega (arith, length-append a (b ++ (c ++ d)), length-append b (c ++ d), length-append c d)

short_is : (from : End) (body : List ℕ) (at left : ℕ) → IsBytes body → Reads from body (Err left)
    → at ≡ length body - left → IsShort from body at
short_is from body at left small r place =
    let c = r.code in
    let e =
    fields_lack (kinds c) r.after left (after_small from body c r.after small r.begins)
    r.reading in
    let all : body ≡ text c ++ (spelled_all e.whole ++ (e.parts ++ e.left)) =
    r.begins ∙ ap (λ (t : List ℕ). text c ++ t) e.bytes_are in
    record {
      code = c;
      whole = e.whole;
      next = e.next;
      later = e.later;
      parts = e.parts;
      left = e.left;
      begins = record { sent = r.sent; fits = e.fits; body_is = all };
      row = e.row;
      lacks = e.lacks;
      place =
          omega (
            arith,
            place,
            e.count_is,
            ap length all,
            length-parts (text c) (spelled_all e.whole) e.parts e.left,
          );
    }

-- what is left is at most the body
pub left_within : (from : End) (body : List ℕ) (left : ℕ) → IsBytes body
    → Reads from body (Err left) → left ≤ length body
left_within from body left small r =
    let e =
    fields_lack (kinds r.code) r.after left
    (after_small from body r.code r.after small r.begins) r.reading in
    omega (
      arith,
      e.count_is,
      ap length r.begins,
      length-append (text r.code) r.after,
      ap length e.bytes_are,
      length-append (spelled_all e.whole) (e.parts ++ e.left),
      length-append e.parts e.left,
    )

pub whole_is : (from : End) (body : List ℕ) (fs : List Field) (rest : List ℕ) → IsBytes body
    → (r : Reads from body (Ok (fs, rest))) → Whole from body r.code fs rest
whole_is from body fs rest small r =
    let t =
    fields_take (kinds r.code) r.after (fs, rest)
    (after_small from body r.code r.after small r.begins) r.reading in
    record {
      begins = record {
        sent = r.sent;
        fits = t.fits;
        body_is = r.begins ∙ ap (λ (a : List ℕ). text r.code ++ a) t.taken.parts;
      };
      row = sym t.kind;
    }

pub rest_within : (from : End) (body : List ℕ) (fs : List Field) (rest : List ℕ) → IsBytes body
    → Reads from body (Ok (fs, rest)) → length rest ≤ length body
rest_within from body fs rest small r =
    let w = whole_is from body fs rest small r in
    omega (
      arith,
      ap length w.begins.body_is,
      length-append (text r.code) (spelled_all fs ++ rest),
      length-append (spelled_all fs) rest,
    )

place_after : (from : End) (body : List ℕ) (c : Code) (fs : List Field) (rest : List ℕ)
    → Whole from body c fs rest
    → length body - length rest ≡ length (text c) + length (spelled_all fs)
place_after from body c fs rest w =
    omega (
      arith,
      ap length w.begins.body_is,
      length-append (text c) (spelled_all fs ++ rest),
      length-append (spelled_all fs) rest,
    )

pub from_faults : (why : BadBody) (from : End) (body : List ℕ) → IsBytes body → Faults why from body
    → Refuses why from body
from_faults bad.UnknownCode from body small h = h
from_faults bad.WrongEnd from body small h = h
from_faults (bad.Short at) from body small h = short_is from body at h.0 small h.1 h.2
from_faults (bad.Trailing at) from body small h =
    let w = whole_is from body h.0 h.1 small h.2 in
    (h.2.code, h.0, h.1, w, h.3, h.4 ∙ place_after from body h.2.code h.0 h.1 w)
from_faults (bad.BadClip at) from body small h =
    (h.1.code, h.0, whole_is from body h.0 [] small h.1, h.2)
from_faults (bad.BadMark at) from body small h =
    (h.1.code, h.0, whole_is from body h.0 [] small h.1, h.2)

abbrev reads_whole : (from : End) (body : List ℕ) (c : Code) (fs : List Field) (rest : List ℕ)
    → Whole from body c fs rest → Reads from body (Ok (fs, rest))
reads_whole from body c fs rest w = record {
  code = c;
  sent = w.begins.sent;
  after = spelled_all fs ++ rest;
  begins = w.begins.body_is;
  reading =
      ap (λ (ks : List Kind). read_fields ks (spelled_all fs ++ rest)) w.row
      ∙ fields_again fs rest w.begins.fits;
}

reads_short : (from : End) (body : List ℕ) (at : ℕ) (s : IsShort from body at)
    → Reads from body (Err (length s.left))
reads_short from body at s = record {
  code = s.code;
  sent = s.begins.sent;
  after = spelled_all s.whole ++ (s.parts ++ s.left);
  begins = s.begins.body_is;
  reading =
      ap (λ (ks : List Kind). read_fields ks (spelled_all s.whole ++ (s.parts ++ s.left))) s.row
      ∙ fields_lacking s.whole s.next s.later s.parts s.left s.begins.fits s.lacks;
}

pub to_faults : (why : BadBody) (from : End) (body : List ℕ) → Refuses why from body
    → Faults why from body
to_faults bad.UnknownCode from body h = h
to_faults bad.WrongEnd from body h = h
to_faults (bad.Short at) from body s = (
  length s.left,
  reads_short from body at s,
  omega (
    arith,
    s.place,
    ap length s.begins.body_is,
    length-parts (text s.code) (spelled_all s.whole) s.parts s.left,
  ),
)
to_faults (bad.Trailing at) from body h = (
  h.1,
  h.2,
  reads_whole from body h.0 h.1 h.2 h.3,
  h.4,
  h.5 ∙ sym (place_after from body h.0 h.1 h.2 h.3),
)
to_faults (bad.BadClip at) from body h = (h.1, reads_whole from body h.0 h.1 [] h.2, h.3)
to_faults (bad.BadMark at) from body h = (h.1, reads_whole from body h.0 h.1 [] h.2, h.3)
