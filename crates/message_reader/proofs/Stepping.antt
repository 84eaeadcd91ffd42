-- The steps of a reader, over what it keeps.
use Rattle.std.proofs.Common.{◌≡◌, ℕ, ◌+◌, Bool, true, false, cond, List, [], ◌∷◌, ◌++◌, length}
use Rattle.std.proofs.Common.{drop, Option, Some, None, zero, suc, refl, sym, ap, subst, ◌∙◌}
use Rattle.std.proofs.Common.{append_assoc, arith}
use Rattle.std.specs.Option.{option_map}
use Rattle.std.proofs.lemmas.List.{length-append}
use Rattle.share_base.specs.declared.reason.Reason.{Reason}
use Rattle.share_base.specs.declared.reason.Reason.TheVariants as reason
use Rattle.wire_frames.specs.Framing.{frame, IsPartial, IsTooLong}
use Rattle.wire_frames.specs.Framers.{FramerParts, fed}
use Rattle.wire_frames.specs.Steps.{IsFirst}
use Rattle.wire_frames.proofs.First.{IsBytes}
use Rattle.message_codec.specs.declared.messages.Msg.{Msg}
use Rattle.message_codec.specs.declared.faults.BadBody.{BadBody}
use Rattle.message_codec.specs.Spelling.{Spells}
use Rattle.message_codec.specs.Refusals.{Refuses}
use Rattle.message_codec.specs.Reasons.{reason_of}
use Rattle.message_codec.specs.Streams.{AreBytes, frame_of, frames_of, Reader, IsGood, AllGood}
use Rattle.message_codec.specs.Verdicts.{IsBad, Rests, Verdict}
use Rattle.message_codec.proofs.HasVerdict.{refused_is_bad}
use Rattle.message_codec.proofs.FramesOf.{frames-last, length-frames_of}
use Rattle.message_codec.proofs.OneVerdict.{all_good-append, one_verdict}
use Rattle.message_reader.specs.declared.reader.BadFrame.{BadFrame}
use Rattle.message_reader.specs.declared.reader.ReadStep.{ReadStep}
use Rattle.message_reader.specs.declared.reader.ReadStep.TheVariants as step
use Rattle.message_reader.specs.Roles.{has_begun, reader_of}
use Rattle.message_reader.specs.ReaderParts.{ReaderParts}
use Rattle.message_reader.specs.Representation.{StandsAt, Represents}
use Rattle.message_reader.specs.Steps.{Extends, bad_frame, Concludes, Gives, GivesMessage}
use Rattle.message_reader.specs.Steps.{GivesNone}
use Rattle.message_reader.proofs.Longer.{bad-more}
use Rattle.message_reader.proofs.FrontFrames.{length-frame, is_shorter}

-- ---- pieces

pub all_bytes : (bytes : List ℕ) → IsBytes bytes → AreBytes bytes
all_bytes [] small = tt
all_bytes (b ∷ bytes) small = (small zero, all_bytes bytes (λ i. small (suc i)))

pub bytes-append : (xs ys : List ℕ) → AreBytes xs → AreBytes ys → AreBytes (xs ++ ys)
bytes-append [] ys a b = b
bytes-append (x ∷ xs) ys a b = (a.0, bytes-append xs ys a.1 b)

-- what stands at the rest stands there with a piece after it
stands_fed : (old new : ReaderParts) (bad : Option BadFrame) (messages : List Msg)
    (rest piece : List ℕ)
    → new.role ≡ old.role → (bad ≡ None → new.framer.rest ≡ old.framer.rest ++ piece)
    → StandsAt old bad messages rest → StandsAt new bad messages (rest ++ piece)
stands_fed old new None messages rest piece role kept h =
    kept refl ∙ ap (λ (t : List ℕ). t ++ piece) h
stands_fed old new (Some bad) messages rest piece role kept h = (
  h.0,
  subst (λ (r : Reader). IsBad r messages bad.reason (rest ++ piece))
      (ap reader_of (sym role))
      (bad-more (reader_of old.role) messages bad.reason rest piece h.1),
)

pub extends : (old new : ReaderParts) (piece : List ℕ) → IsBytes piece → new.role ≡ old.role
    → new.total ≡ old.total + length piece → new.begun ≡ old.begun
    → new.framer.given ≡ old.framer.given → new.bad ≡ old.bad
    → (old.bad ≡ None → new.framer.rest ≡ old.framer.rest ++ piece) → Extends old new piece
extends old new piece small role total begun given bad kept = record {
  role = role;
  total = total;
  represents = λ stream messages h. record {
    rest = h.rest ++ piece;
    stream_is =
        ap (λ (t : List ℕ). t ++ piece) h.stream_is
        ∙ append_assoc (frames_of messages) h.rest piece;
    bytes = bytes-append stream piece h.bytes (all_bytes piece small);
    good = subst (λ (r : Reader). AllGood r [] messages) (ap reader_of (sym role)) h.good;
    total = omega (arith, total, h.total, length-append stream piece);
    begun = begun ∙ h.begun;
    place = given ∙ h.place;
    stands =
        subst (λ (b : Option BadFrame). StandsAt new b messages (h.rest ++ piece)) (sym bad)
        (stands_fed old new old.bad messages h.rest piece role kept h.stands);
  };
}

pub fed_rest : (f : FramerParts) (piece : List ℕ) → f.over ≡ false
    → (fed f piece).rest ≡ f.rest ++ piece
fed_rest f piece fine = ap (λ (b : Bool). cond b f.rest (f.rest ++ piece)) fine

-- ---- no message is left

concludes : (r : ReaderParts) (stream : List ℕ) (messages : List Msg) (bad : Option Reason)
    → (h : Represents r stream messages) → Rests (reader_of r.role) messages bad h.rest
    → Concludes (reader_of r.role) stream messages
    (option_map (λ (why : Reason). record { place = length (frames_of messages); reason = why })
    bad)
concludes r stream messages bad h rests = record {
  verdict =
      record {
        messages = messages;
        rest = h.rest;
        place = length (frames_of messages);
        bad = bad;
        stream_is = h.stream_is;
        good = h.good;
        place_is = refl;
        ends = rests;
      };
  messages_are = refl;
  bad_is = refl;
}

concludes_bad : (r : ReaderParts) (stream : List ℕ) (messages : List Msg) (bad : BadFrame)
    → (h : Represents r stream messages)
    → (bad.place ≡ length (frames_of messages))
    × IsBad (reader_of r.role) messages bad.reason h.rest
    → Concludes (reader_of r.role) stream messages (Some bad)
concludes_bad r stream messages bad h stands =
    subst
    (λ (n : ℕ).
    Concludes (reader_of r.role) stream messages
    (Some (record { place = n; reason = bad.reason })))
    (sym stands.0) (concludes r stream messages (Some bad.reason) h stands.1)

-- the framer's rest is the stream's
rest_of : (r : ReaderParts) (messages : List Msg) (rest : List ℕ) → r.bad ≡ None
    → StandsAt r r.bad messages rest → r.framer.rest ≡ rest
rest_of r messages rest none stands =
    let at : StandsAt r None messages rest =
    subst (λ (b : Option BadFrame). StandsAt r b messages rest) none stands in
    at

-- the framer's limit is that of the place
abbrev pub IsLimited : ReaderParts → Type 0
IsLimited r =
    (before : List Msg) → r.begun ≡ has_begun before
    → r.framer.limit ≡ (reader_of r.role).limit before

pub gives_more : (r : ReaderParts) → r.bad ≡ None → IsLimited r
    → IsPartial r.framer.limit r.framer.rest → GivesNone r r None
gives_more r none limited partial = record {
  role = refl;
  bad_is = none;
  concludes = λ stream messages h. concludes r stream messages None h
      (subst (λ (n : ℕ). IsPartial n h.rest) (limited messages h.begun)
      (subst (IsPartial r.framer.limit) (rest_of r messages h.rest none h.stands) partial));
  represents = λ stream messages h. h;
}

pub gives_again : (r : ReaderParts) (bad : BadFrame) → r.bad ≡ Some bad → GivesNone r r (Some bad)
gives_again r bad is = record {
  role = refl;
  bad_is = is;
  concludes =
      λ stream messages h.
      concludes_bad r stream messages bad h
      (subst (λ (b : Option BadFrame). StandsAt r b messages h.rest) is h.stands);
  represents = λ stream messages h. h;
}

-- the frame at the front is bad for that reason, after whatever messages were given
abbrev pub IsBadHere : ReaderParts → Reason → Type 0
IsBadHere r why =
    (before : List Msg) → r.begun ≡ has_begun before
    → IsBad (reader_of r.role) before why r.framer.rest

pub gives_bad : (old new : ReaderParts) (place : ℕ) (why : Reason) → old.bad ≡ None
    → place ≡ old.framer.given → IsBadHere old why
    → new ≡ record old { bad = Some (record { place = place; reason = why }) }
    → GivesNone old new (Some (record { place = place; reason = why }))
gives_bad old new place why none place-is wrong new-is =
    let bad : BadFrame = record { place = place; reason = why } in
    let stands : (stream : List ℕ) (messages : List Msg) → (h : Represents old stream messages)
    → (bad.place ≡ length (frames_of messages))
    × IsBad (reader_of old.role) messages why h.rest =
    λ stream messages h. (
      place-is ∙ h.place,
      subst (IsBad (reader_of old.role) messages why)
          (rest_of old messages h.rest none h.stands) (wrong messages h.begun),
    )
    in
    let after : ReaderParts = record old { bad = Some bad } in
    let P : ReaderParts → Type 0 = λ r. GivesNone old r (Some bad) in
    subst P (sym new-is) (record {
      role = refl;
      bad_is = refl;
      concludes =
          λ stream messages h. concludes_bad old stream messages bad h (stands stream messages h);
      represents =
          λ stream messages h.
          record {
            rest = h.rest;
            stream_is = h.stream_is;
            bytes = h.bytes;
            good = h.good;
            total = h.total;
            begun = h.begun;
            place = h.place;
            stands = stands stream messages h;
          };
    })

-- the step keeps that frame, and gives it
pub refuses : (from old new : ReaderParts) (given : ReadStep) (place : ℕ) (why : Reason)
    → from ≡ old → from.bad ≡ None → place ≡ from.framer.given → IsBadHere from why
    → new ≡ record old { bad = Some (record { place = place; reason = why }) }
    → given ≡ step.Bad (record { place = place; reason = why }) → Gives old new given
refuses from old new given place why same none place-is wrong new-is given-is =
    let P : ReaderParts → Type 0 =
    λ r. new ≡ record r { bad = Some (record { place = place; reason = why }) }
    → GivesNone r new (Some (record { place = place; reason = why })) in
    subst (Gives old new) (sym given-is)
    (subst P same (gives_bad from new place why none place-is wrong) new-is)

pub too_long : (r : ReaderParts) → IsLimited r → IsTooLong r.framer.limit r.framer.rest
    → IsBadHere r reason.TooLong
too_long r limited long before begun =
    subst (λ (n : ℕ). IsTooLong n r.framer.rest) (limited before begun) long

pub refused : (r : ReaderParts) (body : List ℕ) (fault : BadBody) → IsLimited r
    → IsFirst r.framer.limit body r.framer.rest → Refuses fault (reader_of r.role).from body
    → IsBadHere r (reason_of fault)
refused r body fault limited first wrong before begun =
    refused_is_bad (reader_of r.role) before fault r.framer.rest (record {
      body = body;
      more = drop (4 + length body) r.framer.rest;
      front = first.front;
      within = omega (arith, first.within, limited before begun);
      fault = fault;
      refused = wrong;
      for_it = refl;
    })

pub misplaced : (r : ReaderParts) (body : List ℕ) (m : Msg) → IsLimited r
    → IsFirst r.framer.limit body r.framer.rest → Spells (reader_of r.role).from m body
    → ((before : List Msg) → r.begun ≡ has_begun before → false ≡ (reader_of r.role).takes before m)
    → IsBadHere r reason.State
misplaced r body m limited first spelled not_taken before begun = record {
  message = m;
  more = drop (4 + length body) r.framer.rest;
  front =
      first.front
      ∙ ap (λ (b : List ℕ). frame b ++ drop (4 + length body) r.framer.rest) spelled.body_is;
  within = omega (arith, first.within, limited before begun, ap length spelled.body_is);
  spelled = record { sent = spelled.sent; fits = spelled.fits; body_is = refl };
  not_taken = sym (not_taken before begun);
}

-- ---- a message

begun-last : (ms : List Msg) (m : Msg) → true ≡ has_begun (ms ++ m ∷ [])
begun-last [] m = refl
begun-last (x ∷ ms) m = refl

-- the message of the frame at the front was taken
pub record Takes (old new : ReaderParts) (m : Msg) (body : List ℕ) : Type 0 where
  pub none : old.bad ≡ None
  pub limited : IsLimited old
  pub first : IsFirst old.framer.limit body old.framer.rest
  pub spelled : Spells (reader_of old.role).from m body
  pub taken : (before : List Msg) → old.begun ≡ has_begun before
      → (reader_of old.role).takes before m ≡ true
  pub role : new.role ≡ old.role
  pub total : new.total ≡ old.total
  pub begun : new.begun ≡ true
  pub given : new.framer.given ≡ old.framer.given + (4 + length body)
  pub left : new.framer.rest ≡ drop (4 + length body) old.framer.rest
  pub bad : new.bad ≡ None

is_good : (old new : ReaderParts) (m : Msg) (body : List ℕ) (messages : List Msg)
    → Takes old new m body → old.begun ≡ has_begun messages → IsGood (reader_of old.role) messages m
is_good old new m body messages t begun = record {
  spelled = record { sent = t.spelled.sent; fits = t.spelled.fits; body_is = refl };
  within = omega (arith, t.first.within, t.limited messages begun, ap length t.spelled.body_is);
  taken = t.taken messages begun;
}

-- the messages given are good, with the new one at their end
good_last : (old new : ReaderParts) (m : Msg) (body : List ℕ) (messages : List Msg)
    → Takes old new m body → old.begun ≡ has_begun messages
    → AllGood (reader_of old.role) [] messages
    → AllGood (reader_of new.role) [] (messages ++ m ∷ [])
good_last old new m body messages t begun good =
    subst (λ (r : Reader). AllGood r [] (messages ++ m ∷ [])) (ap reader_of (sym t.role))
    (all_good-append (reader_of old.role) [] messages (m ∷ []) good
    (is_good old new m body messages t begun, tt))

pub gives_message : (old new : ReaderParts) (place : ℕ) (m : Msg) (body : List ℕ)
    → place ≡ old.framer.given → Takes old new m body → GivesMessage old new place m
gives_message old new place m body place-is t =
    let front : old.framer.rest ≡ frame_of m ++ new.framer.rest =
    t.first.front
    ∙ ap (λ (b : List ℕ). frame b ++ drop (4 + length body) old.framer.rest)
    t.spelled.body_is
    ∙ ap (λ (r : List ℕ). frame_of m ++ r) (sym t.left) in
    let long : length (frame_of m) ≡ 4 + length body =
    sym (ap (λ (b : List ℕ). length (frame b)) t.spelled.body_is) ∙ length-frame body in
    record {
      role = t.role;
      shorter = omega (arith, is_shorter body old.framer.rest t.first.front, ap length t.left);
      place_is = λ stream messages h. place-is ∙ h.place;
      represents = λ stream messages h. record {
        rest = new.framer.rest;
        stream_is =
            h.stream_is
            ∙ ap (λ (t : List ℕ). frames_of messages ++ t)
            (sym (rest_of old messages h.rest t.none h.stands) ∙ front)
            ∙ sym (append_assoc (frames_of messages) (frame_of m) new.framer.rest)
            ∙ ap (λ (t : List ℕ). t ++ new.framer.rest) (sym (frames-last messages m));
        bytes = h.bytes;
        good = good_last old new m body messages t h.begun h.good;
        total = t.total ∙ h.total;
        begun = t.begun ∙ begun-last messages m;
        place = omega (arith, t.given, h.place, long, length-frames_of messages m);
        stands =
            subst (λ (b : Option BadFrame). StandsAt new b (messages ++ m ∷ []) new.framer.rest)
            (sym t.bad) refl;
      };
    }

-- ---- the one verdict

same_bad : (reader : Reader) (stream : List ℕ) (a b : Verdict reader stream) → a.place ≡ b.place
    → a.bad ≡ b.bad → bad_frame a ≡ bad_frame b
same_bad reader stream a b place bad =
    ap (λ (n : ℕ). option_map (λ (why : Reason). record { place = n; reason = why }) a.bad) place
    ∙ ap (option_map (λ (why : Reason). record { place = b.place; reason = why })) bad

pub one_reading : (reader : Reader) (stream : List ℕ) (messages : List Msg) (bad : Option BadFrame)
    → Concludes reader stream messages bad → (v : Verdict reader stream)
    → (v.messages ≡ messages) × (bad_frame v ≡ bad)
one_reading reader stream messages bad h v =
    let same = one_verdict reader stream v h.verdict in
    (same.0 ∙ h.messages_are, same_bad reader stream v h.verdict same.2 same.3 ∙ h.bad_is)
