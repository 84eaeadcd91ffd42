-- A front of frames of messages that may stand where they do has nothing bad in it.
use Rattle.std.specs.Prelude.{◌≡◌, refl, ℕ, ◌<◌, ◌≤◌, Bool, true, false, ltb, List, [], ◌∷◌, ◌++◌, length, take, drop, None}
use Rattle.std.proofs.Common.{arith, ap, sym, subst, ◌∙◌, append_assoc, inl, inr, ltb-true, ltb-false}
use Rattle.std.proofs.lemmas.List.{append-nil, length-append, take-append-drop, take-append-le, drop-append-le, take_at, drop_at}
use Rattle.wire_frames.specs.Framing.{length_field, IsPartial}
use Rattle.wire_frames.proofs.OneFrame.{length_field-frame}
use Rattle.std.specs.Int.{w32, from_be_bytes}
use Rattle.message_codec.specs.declared.messages.Msg.{Msg}
use Rattle.message_codec.specs.Spelling.{body_of}
use Rattle.message_codec.specs.Streams.{AreBytes, frame_of, frames_of, Reader, AllGood}
use Rattle.message_codec.specs.Verdicts.{Verdict}
use Rattle.message_codec.specs.Inboxes.{inbox, HasVerdict}
use Rattle.message_codec.proofs.InboxVerdicts.{inbox-verdict}
use Rattle.message_reader.proofs.FrontFrames.{length-frame}
use Rattle.message_reader.proofs.Completing.{Completes, completes, bytes-after}

-- ---- one cut

-- the bytes are the frames of these messages, the first of those, and then less than a frame
record Cut (reader : Reader) (before ms : List Msg) (bytes : List ℕ) : Type 0 where
  messages : List Msg
  left : List Msg
  rest : List ℕ
  all : ms ≡ messages ++ left
  bytes_are : bytes ≡ frames_of messages ++ rest
  partial : IsPartial (reader.limit (before ++ messages)) rest

-- less bytes than a frame that stands there
in_frame : (limit : ℕ) (m : Msg) (bytes more after : List ℕ) → limit ≤ 4194304 → length (body_of m) ≤ limit → frame_of m ++ after ≡ bytes ++ more → length bytes < length (frame_of m) → IsPartial limit bytes
in_frame limit m bytes more after small within e short = by (ltb (length bytes) 4) refl
  where
    by : (b : Bool) → ltb (length bytes) 4 ≡ b → IsPartial limit bytes
    by true f = inl (ltb-true (length bytes) 4 f)
    by false f =
        let four : 4 ≤ length bytes = ltb-false (length bytes) 4 f in
        let field : length_field bytes ≡ length (body_of m) = ap (from_be_bytes w32) (sym (take-append-le 4 bytes more four)) ∙ ap length_field (sym e) ∙ length_field-frame (body_of m) after (omega arith) in
        inr (omega arith, omega (arith, length-frame (body_of m)))

-- the next frame is there as a whole
whole_frame : (f after bytes more : List ℕ) → f ++ after ≡ bytes ++ more → length f ≤ length bytes → (bytes ≡ f ++ drop (length f) bytes) × (after ≡ drop (length f) bytes ++ more)
whole_frame f after bytes more e long =
    let n : ℕ = length f in
    let front : take n bytes ≡ f = sym (take-append-le n bytes more long) ∙ ap (take n) (sym e) ∙ take_at f after n refl in
    (sym (take-append-drop n bytes) ∙ ap (λ (t : List ℕ). t ++ drop n bytes) front, sym (drop_at f after n refl) ∙ ap (drop n) e ∙ drop-append-le n bytes more long)

cut : (reader : Reader) (before ms : List Msg) (bytes more : List ℕ) → AllGood reader before ms → frames_of ms ≡ bytes ++ more → Cut reader before ms bytes
cut reader before [] bytes more good e = record {
  messages = [];
  left = [];
  rest = bytes;
  all = refl;
  bytes_are = refl;
  partial = inl (omega (arith, ap (λ (t : List ℕ). length t) e, length-append bytes more));
}
cut reader before (m ∷ ms) bytes more good e = by (ltb (length bytes) (length (frame_of m))) refl (λ b. cut reader (before ++ m ∷ []) ms (drop (length (frame_of m)) bytes) more good.1 b)
  where
    by : (b : Bool) → ltb (length bytes) (length (frame_of m)) ≡ b → (frames_of ms ≡ drop (length (frame_of m)) bytes ++ more → Cut reader (before ++ m ∷ []) ms (drop (length (frame_of m)) bytes)) → Cut reader before (m ∷ ms) bytes
    by true f later = record {
      messages = [];
      left = m ∷ ms;
      rest = bytes;
      all = refl;
      bytes_are = refl;
      partial = subst (λ (t : List Msg). IsPartial (reader.limit t) bytes) (sym (append-nil before)) (in_frame (reader.limit before) m bytes more (frames_of ms) (reader.limited before) good.0.within e (ltb-true (length bytes) (length (frame_of m)) f));
    }
    by false f later =
        let parts = whole_frame (frame_of m) (frames_of ms) bytes more e (ltb-false (length bytes) (length (frame_of m)) f) in
        let c = later parts.1 in record {
          messages = m ∷ c.messages;
          left = c.left;
          rest = c.rest;
          all = ap (λ (t : List Msg). m ∷ t) c.all;
          bytes_are = parts.0 ∙ ap (λ (t : List ℕ). frame_of m ++ t) c.bytes_are ∙ sym (append_assoc (frame_of m) (frames_of c.messages) c.rest);
          partial = subst (λ (t : List Msg). IsPartial (reader.limit t) c.rest) (append_assoc before (m ∷ []) c.messages) c.partial;
        }

-- ---- the verdict

good-front : (reader : Reader) (before front left : List Msg) → AllGood reader before (front ++ left) → AllGood reader before front
good-front reader before [] left good = tt
good-front reader before (m ∷ front) left good = (good.0, good-front reader (before ++ m ∷ []) front left good.1)

-- the verdict on the bytes has messages that are the first of those, and nothing bad
pub record IsFine (reader : Reader) (ms : List Msg) (bytes : List ℕ) : Type 0 where
  pub verdict : Verdict reader bytes
  pub left : List Msg
  pub all : ms ≡ verdict.messages ++ left
  pub none : verdict.bad ≡ None

pub fine : (reader : Reader) (ms : List Msg) (bytes more : List ℕ) → AllGood reader [] ms → frames_of ms ≡ bytes ++ more → IsFine reader ms bytes
fine reader ms bytes more good e =
    let c = cut reader [] ms bytes more good e in record {
      verdict = record {
        messages = c.messages;
        rest = c.rest;
        place = length (frames_of c.messages);
        bad = None;
        stream_is = c.bytes_are;
        good = good-front reader [] c.messages c.left (subst (AllGood reader []) c.all good);
        place_is = refl;
        ends = c.partial;
      };
      left = c.left;
      all = c.all;
      none = refl;
    }

-- ---- the inbox

-- the messages of the bytes are the first of those, and nothing is bad
pub record IsFineBox (reader : Reader) (ms : List Msg) (bytes : List ℕ) : Type 0 where
  pub left : List Msg
  pub all : ms ≡ (inbox reader bytes).messages ++ left
  pub none : (inbox reader bytes).bad ≡ None

pub fine-box : (reader : Reader) (ms : List Msg) (bytes more : List ℕ) → AllGood reader [] ms → frames_of ms ≡ bytes ++ more → AreBytes bytes → IsFineBox reader ms bytes
fine-box reader ms bytes more good e small =
    let f = fine reader ms bytes more good e in
    let box : HasVerdict f.verdict (inbox reader bytes) = inbox-verdict reader bytes small f.verdict in
    record { left = f.left; all = f.all ∙ ap (λ (t : List Msg). t ++ f.left) (sym box.messages_are); none = box.bad_is ∙ f.none }

-- more bytes bring more messages
pub more-messages : (reader : Reader) (ms : List Msg) (bytes piece more : List ℕ) → AllGood reader [] ms → frames_of ms ≡ bytes ++ more → AreBytes (bytes ++ piece) → AreBytes bytes → (tail : List Msg) × ((inbox reader (bytes ++ piece)).messages ≡ (inbox reader bytes).messages ++ tail)
more-messages reader ms bytes piece more good e all-small small =
    let v : Verdict reader bytes = (fine reader ms bytes more good e).verdict in
    let here : HasVerdict v (inbox reader bytes) = inbox-verdict reader bytes small v in
    let is : bytes ++ piece ≡ frames_of v.messages ++ (v.rest ++ piece) = ap (λ (t : List ℕ). t ++ piece) v.stream_is ∙ append_assoc (frames_of v.messages) v.rest piece in
    let done : Completes reader (bytes ++ piece) v.messages = completes reader v.messages (v.rest ++ piece) (bytes ++ piece) v.good (bytes-after (frames_of v.messages) (v.rest ++ piece) (subst AreBytes is all-small)) is in
    let there : HasVerdict done.verdict (inbox reader (bytes ++ piece)) = inbox-verdict reader (bytes ++ piece) all-small done.verdict in
    (done.tail, there.messages_are ∙ done.messages_are ∙ ap (λ (t : List Msg). t ++ done.tail) (sym here.messages_are))
