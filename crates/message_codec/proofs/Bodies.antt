-- Bodies and the messages that they spell.
use Rattle.std.proofs.Common.{◌≡◌, ℕ, List, [], ◌++◌, length, drop, map, Ok, Some, refl, sym, ap}
use Rattle.std.proofs.Common.{subst, ◌∙◌}
use Rattle.std.proofs.lemmas.List.{append-nil}
use Rattle.wire_frames.proofs.First.{IsBytes}
use Rattle.message_codec.specs.declared.messages.End.{End}
use Rattle.message_codec.specs.declared.messages.Msg.{Msg}
use Rattle.message_codec.specs.declared.messages.Msg.TheVariants as msg
use Rattle.message_codec.specs.declared.coding.Code.{Code}
use Rattle.message_codec.specs.Kinds.{Kind}
use Rattle.message_codec.specs.Fields.{Field, kind_of, spelled_all}
use Rattle.message_codec.specs.Reading.{Read, read_fields}
use Rattle.message_codec.specs.Table.{text, SentBy, kinds, code_of, fields}
use Rattle.message_codec.specs.Spelling.{Spells}
use Rattle.message_codec.specs.Codes.{code_at}
use Rattle.message_codec.proofs.CodeTexts.{one_code, drop-text, code_at-begins}
use Rattle.message_codec.proofs.ReadFaults.{Reads}
use Rattle.message_codec.proofs.Readers.{IsBytes-drop, ok_is}
use Rattle.message_codec.proofs.FieldLaws.{fields_take, fields_again}
use Rattle.message_codec.proofs.Building.{same_parts}

-- a message's fields are of its row's kinds
kinds-fields : (m : Msg) → kinds (code_of m) ≡ map kind_of (fields m)
kinds-fields msg.Bye = refl
kinds-fields m = refl

-- what follows the code is read in one way only
same_after : (from : End) (c d : Code) (a b : List ℕ) → SentBy c from → SentBy d from
    → text c ++ a ≡ text d ++ b → read_fields (kinds c) a ≡ read_fields (kinds d) b
same_after from c d a b sent_c sent_d same =
    let codes : c ≡ d = one_code from c d a b sent_c sent_d same in
    let P : Code → Type 0 =
    λ e. text c ++ a ≡ text e ++ b → read_fields (kinds c) a ≡ read_fields (kinds e) b in
    subst P codes
    (λ eq.
    ap (read_fields (kinds c))
    (sym (drop-text c a) ∙ ap (drop (length (text c))) eq ∙ drop-text c b))
    same

pub one_reading : (from : End) (body : List ℕ) (x y : Read (List Field)) → Reads from body x
    → Reads from body y → x ≡ y
one_reading from body x y r s =
    sym r.reading
    ∙ same_after from r.code s.code r.after s.after r.sent s.sent (sym r.begins ∙ s.begins)
    ∙ s.reading

pub one_reading_code : (from : End) (body : List ℕ) (x y : Read (List Field))
    (r : Reads from body x) (s : Reads from body y)
    → r.code ≡ s.code
one_reading_code from body x y r s =
    one_code from r.code s.code r.after s.after r.sent s.sent (sym r.begins ∙ s.begins)

-- the code that was found, and what was read after it
abbrev pub reads_at : (from : End) (body : List ℕ) (c : Code) (shown after : List ℕ)
    (read : Read (List Field))
    → code_at from body ≡ Some c → SentBy c from → shown ≡ text c → after ≡ drop (length shown) body
    → read_fields (kinds c) after ≡ read → Reads from body read
reads_at from body c shown after read found sent shown-is after-is reading = record {
  code = c;
  sent = sent;
  after = after;
  begins =
      code_at-begins from body c found
      ∙ ap (λ (t : List ℕ). text c ++ t)
      (ap (λ (t : List ℕ). drop (length t) body) (sym shown-is) ∙ sym after-is);
  reading = reading;
}

-- what is read as the fields of a message, up to the body's end, spells it
pub read_spells : (from : End) (m : Msg) (body : List ℕ) (r : Reads from body (Ok (fields m, [])))
    → IsBytes body → code_of m ≡ r.code → Spells from m body
read_spells from m body r small is_code =
    let c = r.code in
    let after_small : IsBytes r.after =
    subst IsBytes (ap (drop (length (text c))) r.begins ∙ drop-text c r.after)
    (IsBytes-drop (length (text c)) body small) in
    let t = fields_take (kinds c) r.after (fields m, []) after_small r.reading in
    let parts : r.after ≡ spelled_all (fields m) =
    t.taken.parts ∙ append-nil (spelled_all (fields m)) in
    record {
      sent = subst (λ (d : Code). SentBy d from) (sym is_code) r.sent;
      fits = t.fits;
      body_is =
          r.begins ∙ ap (λ (a : List ℕ). text c ++ a) parts
          ∙ ap (λ (d : Code). text d ++ spelled_all (fields m)) (sym is_code);
    }

-- what spells a message is read as its fields, up to the body's end
pub spelled_reads : (from : End) (m : Msg) (body : List ℕ) → Spells from m body
    → Reads from body (Ok (fields m, []))
spelled_reads from m body s = record {
  code = code_of m;
  sent = s.sent;
  after = spelled_all (fields m);
  begins = s.body_is;
  reading =
      ap (read_fields (kinds (code_of m))) (sym (append-nil (spelled_all (fields m))))
      ∙ ap (λ (k : List Kind). read_fields k (spelled_all (fields m) ++ [])) (kinds-fields m)
      ∙ fields_again (fields m) [] s.fits;
}

-- no body spells two messages
pub one_message : (from : End) (m n : Msg) (body : List ℕ) → Spells from m body → Spells from n body
    → m ≡ n
unfolding spelled_reads
one_message from m n body s t =
    let r = spelled_reads from m body s in
    let q = spelled_reads from n body t in
    let read : Ok (fields m, []) ≡ Ok (fields n, []) = one_reading from body _ _ r q in
    same_parts m n (one_reading_code from body _ _ r q)
    (ap (λ (p : List Field × List ℕ). p.0) (ok_is (fields m, []) (fields n, []) read))
