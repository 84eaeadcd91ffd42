-- What the bytes of a stream come to, byte by byte, is the verdict on it.
use Rattle.std.specs.Prelude.{◌≡◌, refl, ℕ, ◌+◌, ◌<◌, ◌≤◌, Bool, true}
use Rattle.std.specs.Prelude.{false, ◌==◌, nat_lt, List, [], ◌∷◌, ◌++◌, length, take, drop, fold}
use Rattle.std.specs.Prelude.{Option, Some, None, Result, Ok, Err}
use Rattle.std.specs.Int.{w32, from_be_bytes}
use Rattle.std.proofs.Common.{arith, sym, ap, ◌∙◌, subst, append_assoc, inl, inr}
use Rattle.std.proofs.lemmas.Bool.Decides.{nat_tests}
use Rattle.std.proofs.lemmas.Bool.{cases_lt}
use Rattle.std.proofs.lemmas.List.{append-nil, length-append, length-drop, take-append-le, take_at}
use Rattle.std.proofs.lemmas.List.{drop_at, take_all, drop_all}
use Rattle.share_base.specs.declared.reason.Reason.{Reason}
use Rattle.share_base.specs.declared.reason.Reason.TheVariants as reason
use Rattle.wire_frames.specs.Framing.{frame, length_field, IsPartial, IsTooLong}
use Rattle.wire_frames.proofs.First.{IsBytes, IsBytes-take, front_of}
use Rattle.message_codec.specs.declared.messages.Msg.{Msg}
use Rattle.message_codec.specs.declared.faults.BadBody.{BadBody}
use Rattle.message_codec.specs.declared.faults.BadBody.TheVariants as bad
use Rattle.message_codec.specs.Spelling.{body_of, Spells}
use Rattle.message_codec.specs.Reasons.{reason_of}
use Rattle.message_codec.specs.Streams.{frame_of, frames_of, Reader, AllGood, AreBytes}
use Rattle.message_codec.specs.Verdicts.{IsRefused, IsBad, Rests, Verdict}
use Rattle.message_codec.specs.BodyVerdicts.{body_verdict, IsVerdictOn}
use Rattle.message_codec.specs.Inboxes.{Inbox, empty_inbox, takes_if, takes_body}
use Rattle.message_codec.specs.Inboxes.{opens_if, limits_if, looks_if, looks, with_byte, inbox}
use Rattle.message_codec.specs.Inboxes.{HasVerdict}
use Rattle.message_codec.proofs.Readers.{all-IsBytes, IsBytes-drop}
use Rattle.message_codec.proofs.FramesOf.{frames-last}
use Rattle.message_codec.proofs.OneVerdict.{one_verdict, all_good-append}
use Rattle.message_codec.proofs.BodyVerdicts.{body-verdict}

-- the inbox is the verdict on these bytes
record Reads (reader : Reader) (bytes : List ℕ) (box : Inbox) : Type 0 where
  stream : bytes ≡ frames_of box.messages ++ box.rest
  good : AllGood reader [] box.messages
  place : box.place ≡ length (frames_of box.messages)
  ends : Rests reader box.messages box.bad box.rest

-- ---- a bad frame stays bad with a byte more

long_more : (limit : ℕ) (rest : List ℕ) (byte : ℕ) → IsTooLong limit rest
    → IsTooLong limit (rest ++ byte ∷ [])
long_more limit rest byte h = record {
  whole = (let n = length-append rest (byte ∷ []) in let w = h.whole in omega arith);
  above =
      subst (λ xs. limit < from_be_bytes w32 xs) (sym (take-append-le 4 rest (byte ∷ []) h.whole))
      h.above;
}

refused_more : (reader : Reader) (ms : List Msg) (why : Reason) (rest : List ℕ) (byte : ℕ)
    → IsRefused reader ms why rest → IsRefused reader ms why (rest ++ byte ∷ [])
refused_more reader ms why rest byte h = record {
  body = h.body;
  more = h.more ++ byte ∷ [];
  front = ap (λ xs. xs ++ byte ∷ []) h.front ∙ append_assoc (frame h.body) h.more (byte ∷ []);
  within = h.within;
  fault = h.fault;
  refused = h.refused;
  for_it = h.for_it;
}

bad_more : (reader : Reader) (ms : List Msg) (why : Reason) (rest : List ℕ) (byte : ℕ)
    → IsBad reader ms why rest → IsBad reader ms why (rest ++ byte ∷ [])
bad_more reader ms reason.TooLong rest byte h = long_more (reader.limit ms) rest byte h
bad_more reader ms reason.State rest byte h = record {
  message = h.message;
  more = h.more ++ byte ∷ [];
  front = ap (λ xs. xs ++ byte ∷ []) h.front ∙ append_assoc (frame_of h.message) h.more (byte ∷ []);
  within = h.within;
  spelled = h.spelled;
  not_taken = h.not_taken;
}
bad_more reader ms reason.Cut rest byte h = h
bad_more reader ms reason.Code rest byte h = refused_more reader ms reason.Code rest byte h
bad_more reader ms reason.End rest byte h = refused_more reader ms reason.End rest byte h
bad_more reader ms reason.Short rest byte h = refused_more reader ms reason.Short rest byte h
bad_more reader ms reason.Trailing rest byte h = refused_more reader ms reason.Trailing rest byte h
bad_more reader ms reason.Clip rest byte h = refused_more reader ms reason.Clip rest byte h
bad_more reader ms reason.Mark rest byte h = refused_more reader ms reason.Mark rest byte h

refused_bad : (reader : Reader) (ms : List Msg) (why : BadBody) (bytes : List ℕ)
    → IsRefused reader ms (reason_of why) bytes → IsBad reader ms (reason_of why) bytes
refused_bad reader ms bad.UnknownCode bytes h = h
refused_bad reader ms why bytes h = h

-- ---- a whole frame

-- the box with one byte more, which was partial before
abbrev grown : Inbox → ℕ → Inbox
grown box byte = record box { rest = box.rest ++ byte ∷ [] }

still : (reader : Reader) (bytes : List ℕ) (box : Inbox) (byte : ℕ) (bad : Option Reason)
    → Reads reader bytes box → Rests reader box.messages bad (box.rest ++ byte ∷ [])
    → Reads reader (bytes ++ byte ∷ [])
    (record
    { messages = box.messages; place = box.place; rest = box.rest ++ byte ∷ []; bad = bad })
still reader bytes box byte bad h ends = record {
  stream =
      ap (λ xs. xs ++ byte ∷ []) h.stream
      ∙ append_assoc (frames_of box.messages) box.rest (byte ∷ []);
  good = h.good;
  place = h.place;
  ends = ends;
}

message_in : (reader : Reader) (bytes : List ℕ) (box : Inbox) (byte : ℕ) (body : List ℕ) (m : Msg)
    → Reads reader bytes box → box.bad ≡ None → box.rest ++ byte ∷ [] ≡ frame body
    → length body ≤ reader.limit box.messages → Spells reader.from m body
    → Reads reader (bytes ++ byte ∷ []) (takes_if (reader.takes box.messages m) m (grown box byte))
message_in reader bytes box byte body m h fine front within spells =
    by (reader.takes box.messages m) refl
  where
    same : body ≡ body_of m
    same = spells.body_is

    spelled : Spells reader.from m (body_of m)
    spelled = record { sent = spells.sent; fits = spells.fits; body_is = refl }

    small : length (body_of m) ≤ reader.limit box.messages
    small = subst (λ b. length b ≤ reader.limit box.messages) same within

    whole : box.rest ++ byte ∷ [] ≡ frame_of m
    whole = front ∙ ap frame same

    stream : bytes ++ byte ∷ [] ≡ frames_of (box.messages ++ m ∷ []) ++ []
    stream =
        ap (λ xs. xs ++ byte ∷ []) h.stream
        ∙ (append_assoc (frames_of box.messages) box.rest (byte ∷ [])
        ∙ (ap (λ xs. frames_of box.messages ++ xs) whole
        ∙ (sym (frames-last box.messages m)
        ∙ sym (append-nil (frames_of (box.messages ++ m ∷ []))))))

    place : box.place + length (box.rest ++ byte ∷ []) ≡ length (frames_of (box.messages ++ m ∷ []))
    place =
        let a = h.place in let b = ap length whole in
        let c = ap length (frames-last box.messages m) in
        let d = length-append (frames_of box.messages) (frame_of m) in omega arith

    by : (b : Bool) → reader.takes box.messages m ≡ b
        → Reads reader (bytes ++ byte ∷ []) (takes_if b m (grown box byte))
    by true e = record {
      stream = stream;
      good =
          all_good-append reader [] box.messages (m ∷ []) h.good
          (record { spelled = spelled; within = small; taken = e }, tt);
      place = place;
      ends = inl (omega arith);
    }
    by false e =
        still reader bytes box byte (Some reason.State) h
        (record {
          message = m;
          more = [];
          front = whole ∙ sym (append-nil (frame_of m));
          within = small;
          spelled = spelled;
          not_taken = e;
        })

body_in : (reader : Reader) (bytes : List ℕ) (box : Inbox) (byte : ℕ) (body : List ℕ)
    (answer : Result Msg BadBody)
    → Reads reader bytes box → box.bad ≡ None → box.rest ++ byte ∷ [] ≡ frame body
    → length body ≤ reader.limit box.messages → IsVerdictOn reader.from body answer
    → Reads reader (bytes ++ byte ∷ []) (takes_body reader answer (grown box byte))
body_in reader bytes box byte body (Ok m) h fine front within is =
    message_in reader bytes box byte body m h fine front within is
body_in reader bytes box byte body (Err why) h fine front within is =
    still reader bytes box byte (Some (reason_of why)) h
    (refused_bad reader box.messages why (box.rest ++ byte ∷ [])
    (record {
      body = body;
      more = [];
      front = front ∙ sym (append-nil (frame body));
      within = within;
      fault = why;
      refused = is;
      for_it = refl;
    }))

-- a rest of just the bytes that its length names is the frame of what follows the length
one_frame : (limit : ℕ) (rest : List ℕ) → IsBytes rest → 4 ≤ length rest → length_field rest ≤ limit
    → length rest ≡ 4 + length_field rest
    → (rest ≡ frame (drop 4 rest)) × (length (drop 4 rest) ≤ limit)
one_frame limit rest small long within exact =
    elim (front_of limit rest small) [
      | inl partial ↦
          absurd
          (elim partial [ inl few ↦ omega arith | inr fewer ↦ let lt = fewer.1 in omega arith ])
      | inr other ↦ elim other [
        | inl above ↦ absurd (let a = above.above in omega arith)
        | inr first ↦
            let body : List ℕ = take (length_field rest) (drop 4 rest) in
            let len : length (drop 4 rest) ≡ length_field rest = let d = length-drop 4 rest in
            omega arith in
            let all : body ≡ drop 4 rest =
            take_all (length_field rest) (drop 4 rest) (omega arith) in
            let none : drop (4 + length body) rest ≡ [] =
            drop_all (4 + length body) rest (let n = ap length all in omega arith) in
            let front : rest ≡ frame body =
            first.front ∙ (ap (λ xs. frame body ++ xs) none ∙ append-nil (frame body)) in
            (front ∙ ap frame all, (let n = first.within in let m = ap length all in omega arith))
      ]
    ]

-- ---- a byte more

-- less than a frame and a byte more, which is neither too long nor whole, is less than a frame
less_more : (limit : ℕ) (rest : List ℕ) (byte : ℕ) → IsPartial limit rest
    → 4 ≤ length (rest ++ byte ∷ []) → length_field (rest ++ byte ∷ []) ≤ limit
    → (length (rest ++ byte ∷ []) ≡ 4 + length_field (rest ++ byte ∷ []) → ⊥)
    → IsPartial limit (rest ++ byte ∷ [])
less_more limit rest byte partial long within other =
    let one : length (rest ++ byte ∷ []) ≡ length rest + 1 = length-append rest (byte ∷ []) in
    elim partial [
      | inl few ↦ inr (within, omega arith)
      | inr fewer ↦ elim (cases_lt (length rest) 4) [
        | inl few ↦ inr (within, omega arith)
        | inr header ↦
            let same : length_field (rest ++ byte ∷ []) ≡ length_field rest =
            ap (from_be_bytes w32) (take-append-le 4 rest (byte ∷ []) header) in
            let lt = fewer.1 in
            inr (within, omega arith)
      ]
    ]

next : (reader : Reader) (bytes : List ℕ) (box : Inbox) (byte : ℕ) → IsBytes (box.rest ++ byte ∷ [])
    → Reads reader bytes box → Reads reader (bytes ++ byte ∷ []) (with_byte reader box byte)
next reader bytes box byte small h = by box.bad refl h.ends
  where
    limit : ℕ
    limit = reader.limit box.messages

    grows : (bad : Option Reason) → box.bad ≡ bad
        → Rests reader box.messages bad (box.rest ++ byte ∷ [])
        → Reads reader (bytes ++ byte ∷ []) (grown box byte)
    grows bad e ends =
        still reader bytes box byte box.bad h
        (subst (λ b. Rests reader box.messages b (box.rest ++ byte ∷ [])) (sym e) ends)

    opened : box.bad ≡ None → IsPartial (reader.limit box.messages) box.rest
        → 4 ≤ length (box.rest ++ byte ∷ [])
        → length_field (box.rest ++ byte ∷ []) ≤ reader.limit box.messages → (b : Bool)
        → (length (box.rest ++ byte ∷ []) == 4 + length_field (box.rest ++ byte ∷ [])) ≡ b
        → Reads reader (bytes ++ byte ∷ []) (opens_if reader b (grown box byte))
    opened e partial long within true k =
        let frame_is =
        one_frame (reader.limit box.messages) (box.rest ++ byte ∷ []) small long within
        (grind (arith, k)) in
        body_in reader bytes box byte (drop 4 (box.rest ++ byte ∷ []))
        (body_verdict reader.from (drop 4 (box.rest ++ byte ∷ []))) h e frame_is.0 frame_is.1
        (body-verdict reader.from (drop 4 (box.rest ++ byte ∷ []))
        (IsBytes-drop 4 (box.rest ++ byte ∷ []) small))
    opened e partial long within false k =
        grows None e
        (less_more (reader.limit box.messages) box.rest byte partial long within
        (λ same.
        let no : (length (box.rest ++ byte ∷ [])
        == 4 + length_field (box.rest ++ byte ∷ []))
        ≡ true = grind (arith, same) in
        cc))

    limited : box.bad ≡ None → IsPartial (reader.limit box.messages) box.rest
        → 4 ≤ length (box.rest ++ byte ∷ []) → (b : Bool)
        → nat_lt (reader.limit box.messages) (length_field (box.rest ++ byte ∷ [])) ≡ b
        → Reads reader (bytes ++ byte ∷ []) (limits_if reader b (grown box byte))
    limited e partial long true k =
        still reader bytes box byte (Some reason.TooLong) h
        (record { whole = long; above = grind (arith, nat_tests, k) })
    limited e partial long false k =
        opened e partial long (grind (arith, nat_tests, k))
        (length (box.rest ++ byte ∷ []) == 4 + length_field (box.rest ++ byte ∷ [])) refl

    looked : box.bad ≡ None → IsPartial (reader.limit box.messages) box.rest → (b : Bool)
        → nat_lt (length (box.rest ++ byte ∷ [])) 4 ≡ b
        → Reads reader (bytes ++ byte ∷ []) (looks_if reader b (grown box byte))
    looked e partial true k = grows None e (inl (grind (arith, nat_tests, k)))
    looked e partial false k =
        limited e partial (grind (arith, nat_tests, k))
        (nat_lt (reader.limit box.messages) (length_field (box.rest ++ byte ∷ []))) refl

    by : (bad : Option Reason) → box.bad ≡ bad → Rests reader box.messages bad box.rest
        → Reads reader (bytes ++ byte ∷ []) (looks reader bad (grown box byte))
    by (Some why) e ends = grows (Some why) e (bad_more reader box.messages why box.rest byte ends)
    by None e ends = looked e ends (nat_lt (length (box.rest ++ byte ∷ [])) 4) refl

-- ---- all bytes

back : (a b : List ℕ) → IsBytes (a ++ b) → IsBytes b
back a b small =
    subst IsBytes (drop_at a b (length a) refl) (IsBytes-drop (length a) (a ++ b) small)

front : (a b : List ℕ) → IsBytes (a ++ b) → IsBytes a
front a b small =
    subst IsBytes (take_at a b (length a) refl) (IsBytes-take (length a) (a ++ b) small)

all_read : (reader : Reader) (done more : List ℕ) (box : Inbox) → IsBytes (done ++ more)
    → Reads reader done box → Reads reader (done ++ more) (fold (with_byte reader) box more)
all_read reader done [] box small h = subst (λ xs. Reads reader xs box) (sym (append-nil done)) h
all_read reader done (byte ∷ more) box small h =
    let regroup : (done ++ byte ∷ []) ++ more ≡ done ++ (byte ∷ more) =
    append_assoc done (byte ∷ []) more in
    let whole : IsBytes ((done ++ byte ∷ []) ++ more) = subst IsBytes (sym regroup) small in
    let split : done ++ byte ∷ [] ≡ frames_of box.messages ++ (box.rest ++ byte ∷ []) =
    ap (λ xs. xs ++ byte ∷ []) h.stream
    ∙ append_assoc (frames_of box.messages) box.rest (byte ∷ []) in
    let rest : IsBytes (box.rest ++ byte ∷ []) =
    back (frames_of box.messages) (box.rest ++ byte ∷ [])
    (subst IsBytes split (front (done ++ byte ∷ []) more whole)) in
    subst (λ xs. Reads reader xs (fold (with_byte reader) (with_byte reader box byte) more)) regroup
    (all_read reader (done ++ byte ∷ []) more (with_byte reader box byte) whole
    (next reader done box byte rest h))

inbox_reads : (reader : Reader) (bytes : List ℕ) → IsBytes bytes
    → Reads reader bytes (inbox reader bytes)
inbox_reads reader bytes small =
    all_read reader [] bytes empty_inbox small
    (record { stream = refl; good = tt; place = refl; ends = inl (omega arith) })

pub inbox-verdict : (reader : Reader) (bytes : List ℕ) → AreBytes bytes → (v : Verdict reader bytes)
    → HasVerdict v (inbox reader bytes)
inbox-verdict reader bytes small v =
    let h = inbox_reads reader bytes (all-IsBytes bytes small) in
    let own : Verdict reader bytes =
    record {
      messages = (inbox reader bytes).messages;
      rest = (inbox reader bytes).rest;
      place = (inbox reader bytes).place;
      bad = (inbox reader bytes).bad;
      stream_is = h.stream;
      good = h.good;
      place_is = h.place;
      ends = h.ends;
    }
    in
    let same = one_verdict reader bytes own v in
    record { messages_are = same.0; rest_is = same.1; place_is = same.2; bad_is = same.3 }
