-- A stream has a verdict.
use Rattle.std.proofs.Common.{◌≡◌, ℕ, zero, suc, ◌+◌, ◌<◌, ◌≤◌, Bool, true, false, List, [], ◌∷◌}
use Rattle.std.proofs.Common.{◌++◌, length, take, drop, Option, Some, None, refl, sym, ap, subst}
use Rattle.std.proofs.Common.{◌∙◌, arith, inl, inr}
use Rattle.std.proofs.lemmas.List.{append-nil, length-append}
use Rattle.share_base.specs.declared.reason.Reason.{Reason}
use Rattle.share_base.specs.declared.reason.Reason.TheVariants as reason
use Rattle.wire_frames.specs.Framing.{frame, length_field}
use Rattle.wire_frames.proofs.First.{IsBytes, IsBytes-take, front_of}
use Rattle.message_codec.specs.declared.messages.Msg.{Msg}
use Rattle.message_codec.specs.declared.faults.BadBody.{BadBody}
use Rattle.message_codec.specs.declared.faults.BadBody.TheVariants as bad
use Rattle.message_codec.specs.Spelling.{body_of, Spells}
use Rattle.message_codec.specs.Reasons.{reason_of}
use Rattle.message_codec.specs.Streams.{frame_of, frames_of, Reader, IsGood, AllGood}
use Rattle.message_codec.specs.Verdicts.{IsRefused, IsBad, Rests, Verdict}
use Rattle.message_codec.proofs.Readers.{IsBytes-drop}
use Rattle.message_codec.proofs.FramesOf.{frames-cons}
use Rattle.message_codec.proofs.OneVerdict.{regroup}
use Rattle.message_codec.proofs.SpelledOrRefused.{spelled_or_refused}

-- after some messages: the bytes are the frames of others, each where it may stand, and then a rest
pub record Follows (r : Reader) (before : List Msg) (bytes : List ℕ) : Type 0 where
  pub messages : List Msg
  pub rest : List ℕ
  pub bad : Option Reason
  pub bytes_are : bytes ≡ frames_of messages ++ rest
  pub good : AllGood r before messages
  pub ends : Rests r (before ++ messages) bad rest

-- no message follows
stops : (r : Reader) (before : List Msg) (bad : Option Reason) (bytes : List ℕ)
    → Rests r before bad bytes → Follows r before bytes
stops r before bad bytes h =
    record {
      messages = [];
      rest = bytes;
      bad = bad;
      bytes_are = refl;
      good = tt;
      ends = subst (λ (ms : List Msg). Rests r ms bad bytes) (sym (append-nil before)) h;
    }

-- one message follows, and then what follows it
goes_on : (r : Reader) (before : List Msg) (m : Msg) (more bytes : List ℕ) → IsGood r before m
    → bytes ≡ frame_of m ++ more → Follows r (before ++ m ∷ []) more → Follows r before bytes
goes_on r before m more bytes good front f = record {
  messages = m ∷ f.messages;
  rest = f.rest;
  bad = f.bad;
  bytes_are =
      front ∙ ap (λ (t : List ℕ). frame_of m ++ t) f.bytes_are
      ∙ sym (frames-cons m f.messages f.rest);
  good = (good, f.good);
  ends =
      subst (λ (ms : List Msg). Rests r ms f.bad f.rest) (sym (regroup before m f.messages)) f.ends;
}

-- ---- a frame at the front

pub refused_is_bad : (r : Reader) (before : List Msg) (why : BadBody) (bytes : List ℕ)
    → IsRefused r before (reason_of why) bytes → IsBad r before (reason_of why) bytes
refused_is_bad r before bad.UnknownCode bytes h = h
refused_is_bad r before why bytes h = h

-- of a message, which may stand there or may not
at_message : (r : Reader) (before : List Msg) (m : Msg) (more bytes : List ℕ)
    → Spells r.from m (body_of m) → length (body_of m) ≤ r.limit before → bytes ≡ frame_of m ++ more
    → ((ms : List Msg) → Follows r ms more) → Follows r before bytes
at_message r before m more bytes spelled within front later = either (r.takes before m) refl
  where
    either : (t : Bool) → r.takes before m ≡ t → Follows r before bytes
    either true taken =
        goes_on r before m more bytes (record { spelled = spelled; within = within; taken = taken })
        front (later (before ++ m ∷ []))
    either false not_taken =
        stops r before (Some reason.State) bytes
        (record {
          message = m;
          more = more;
          front = front;
          within = within;
          spelled = spelled;
          not_taken = not_taken;
        })

at_frame : (r : Reader) (before : List Msg) (body more bytes : List ℕ) → IsBytes body
    → length body ≤ r.limit before → bytes ≡ frame body ++ more
    → ((ms : List Msg) → Follows r ms more) → Follows r before bytes
at_frame r before body more bytes small within front later =
    elim (spelled_or_refused r.from body small) [
      | inl s ↦
          let same = s.1.body_is in
          let spelled : Spells r.from s.0 (body_of s.0) =
          record { sent = s.1.sent; fits = s.1.fits; body_is = refl } in
          at_message r before s.0 more bytes spelled
          (subst (λ (b : List ℕ). length b ≤ r.limit before) same within)
          (front ∙ ap (λ (b : List ℕ). frame b ++ more) same) later
      | inr w ↦
          let refused : IsRefused r before (reason_of w.0) bytes =
          record {
            body = body;
            more = more;
            front = front;
            within = within;
            fault = w.0;
            refused = w.1;
            for_it = refl;
          }
          in
          stops r before (Some (reason_of w.0)) bytes (refused_is_bad r before w.0 bytes refused)
    ]

-- ---- the whole stream

-- what is left after a frame is shorter
is_shorter : (body more bytes : List ℕ) (n : ℕ) → bytes ≡ frame body ++ more → length bytes < suc n
    → length more < n
is_shorter body more bytes n front lt =
    omega (arith, ap length front, length-append (frame body) more)

pub follows : (n : ℕ) (r : Reader) (before : List Msg) (bytes : List ℕ) → length bytes < n
    → IsBytes bytes → Follows r before bytes
follows zero r before bytes lt small = absurd (omega arith)
follows (suc n) r before bytes lt small =
    let body : List ℕ = take (length_field bytes) (drop 4 bytes) in
    let more : List ℕ = drop (4 + length body) bytes in
    elim (front_of (r.limit before) bytes small) [
      | inl partial ↦ stops r before None bytes partial
      | inr other ↦ elim other [
        | inl long ↦ stops r before (Some reason.TooLong) bytes long
        | inr first ↦
            let body_small : IsBytes body =
            IsBytes-take (length_field bytes) (drop 4 bytes) (IsBytes-drop 4 bytes small) in
            at_frame r before body more bytes body_small first.within first.front
            (λ ms.
            follows n r ms more (is_shorter body more bytes n first.front lt)
            (IsBytes-drop (4 + length body) bytes small))
      ]
    ]

pub each_has_a_verdict : (r : Reader) (stream : List ℕ) → IsBytes stream → Verdict r stream
each_has_a_verdict r stream small =
    let f = follows (suc (length stream)) r [] stream (omega arith) small in
    record {
      messages = f.messages;
      rest = f.rest;
      place = length (frames_of f.messages);
      bad = f.bad;
      stream_is = f.bytes_are;
      good = f.good;
      place_is = refl;
      ends = f.ends;
    }
