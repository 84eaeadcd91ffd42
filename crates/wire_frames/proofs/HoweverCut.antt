-- However a stream is cut, a framer stops at the same place.
use Rattle.std.proofs.Common.{◌≡◌, ℕ, ◌^◌, ◌<◌, ◌≤◌, Bool, true, false, cond, List, [], ◌∷◌, ◌++◌}
use Rattle.std.proofs.Common.{length, refl, sym, ap, subst, ◌∙◌, append_assoc, arith, inl, inr}
use Rattle.std.proofs.lemmas.List.{length-append, append-nil, take-append-le}
use Rattle.std.specs.Int.{w32, from_be_bytes}
use Rattle.wire_frames.specs.Framing.{frame, frames, length_field, IsPartial, IsTooLong}
use Rattle.wire_frames.specs.Framers.{FramerParts}
use Rattle.wire_frames.specs.Calls.{Call, Fed, Gave, Waited, Refused, Raised, is_refused}
use Rattle.wire_frames.specs.Calls.{stream_fed, pieces_fed, bodies_given, next_place, limit_after}
use Rattle.wire_frames.specs.Cuts.{StoppedAt, StoppedAlike}
use Rattle.wire_frames.proofs.OneFrame.{one_frame, frame_is_whole, frame_fits}
use Rattle.wire_frames.proofs.OneFraming.{Within, frames-cons}
use Rattle.wire_frames.proofs.Histories.{given_within, left_is}

-- ---- all pieces, and those that are part of the stream

-- the pieces are the stream and then those fed after a length was too long
record Ignores (calls : List Call) : Type 0 where
  more : List ℕ
  pieces_are : pieces_fed calls ≡ stream_fed calls ++ more
  none : is_refused calls ≡ false → more ≡ []

ignores-piece : (over : Bool) (stream pieces piece more : List ℕ) → pieces ≡ stream ++ more
    → (over ≡ false → more ≡ [])
    → (left : List ℕ) × (pieces ++ piece ≡ cond over stream (stream ++ piece) ++ left)
    × (over ≡ false → left ≡ [])
ignores-piece true stream pieces piece more are none = (
  more ++ piece,
  ap (λ (t : List ℕ). t ++ piece) are ∙ append_assoc stream more piece,
  λ e. absurd cc,
)
ignores-piece false stream pieces piece more are none = (
  [],
  ap (λ (t : List ℕ). t ++ piece)
      (are ∙ ap (λ (t : List ℕ). stream ++ t) (none refl) ∙ append-nil stream)
      ∙ sym (append-nil (stream ++ piece)),
  λ e. refl,
)

ignores : (calls : List Call) → Ignores calls
ignores [] = record { more = []; pieces_are = refl; none = λ e. refl }
ignores (Fed piece ∷ calls) =
    let i = ignores calls in
    let more =
    ignores-piece (is_refused calls) (stream_fed calls) (pieces_fed calls) piece i.more
    i.pieces_are i.none in
    record { more = more.0; pieces_are = more.1; none = more.2 }
ignores (Gave place body ∷ calls) =
    let i = ignores calls in record { more = i.more; pieces_are = i.pieces_are; none = i.none }
ignores (Waited ∷ calls) =
    let i = ignores calls in record { more = i.more; pieces_are = i.pieces_are; none = i.none }
ignores (Refused place len ∷ calls) =
    let i = ignores calls in
    record { more = i.more; pieces_are = i.pieces_are; none = λ e. absurd cc }
ignores (Raised limit ∷ calls) =
    let i = ignores calls in record { more = i.more; pieces_are = i.pieces_are; none = i.none }

-- ---- where a framer stops

-- at that place the bytes are less than a frame, or a length above the limit stands at their front,
-- by the answer
abbrev StopsBefore : ℕ → ℕ → List ℕ → Call → Type 0
StopsBefore limit at bytes Waited = IsPartial limit bytes
StopsBefore limit at bytes (Refused place len) =
    (place ≡ at) × IsTooLong limit bytes × (len ≡ length_field bytes)
StopsBefore limit at bytes call = ⊥

-- no frame stands there
no_frame : (limit at : ℕ) (body rest bytes : List ℕ) (answer : Call) → limit < 2 ^ 32
    → length body ≤ limit → bytes ≡ frame body ++ rest → StopsBefore limit at bytes answer → ⊥
no_frame limit at body rest bytes Waited small within front stops =
    frame_is_whole limit body rest bytes (omega arith) front stops
no_frame limit at body rest bytes (Refused place len) small within front stops =
    frame_fits limit body rest bytes (omega arith) within front stops.1
no_frame limit at body rest bytes (Fed piece) small within front stops = stops
no_frame limit at body rest bytes (Gave place b) small within front stops = stops
no_frame limit at body rest bytes (Raised higher) small within front stops = stops

short_or_long : (limit : ℕ) (bytes : List ℕ) → IsPartial limit bytes → IsTooLong limit bytes → ⊥
short_or_long limit bytes partial long =
    elim partial
    [ inl short ↦ omega (arith, long.whole) | inr fewer ↦ omega (arith, fewer.0, long.above) ]

-- one answer is right there
one_answer : (limit at : ℕ) (bytes : List ℕ) (x y : Call) → StopsBefore limit at bytes x
    → StopsBefore limit at bytes y → x ≡ y
one_answer limit at bytes Waited Waited a b = refl
one_answer limit at bytes Waited (Refused place len) a b = absurd (short_or_long limit bytes a b.1)
one_answer limit at bytes (Refused place len) Waited a b = absurd (short_or_long limit bytes b a.1)
one_answer limit at bytes (Refused p m) (Refused q n) a b =
    ap (λ (place : ℕ). Refused place m) (a.0 ∙ sym b.0)
    ∙ ap (λ (len : ℕ). Refused q len) (a.2 ∙ sym b.2)
one_answer limit at bytes (Fed piece) y a b = absurd a
one_answer limit at bytes (Gave place body) y a b = absurd a
one_answer limit at bytes (Raised higher) y a b = absurd a
one_answer limit at bytes x (Fed piece) a b = absurd b
one_answer limit at bytes x (Gave place body) a b = absurd b
one_answer limit at bytes x (Raised higher) a b = absurd b

-- two ways to split one stream, each up to where a framer stops, are one
one_split : (limit : ℕ) (a b : List (List ℕ)) (r t : List ℕ) (m n : ℕ) (x y : Call) → limit < 2 ^ 32
    → Within limit a → Within limit b → StopsBefore limit m r x → StopsBefore limit n t y
    → frames a ++ r ≡ frames b ++ t → (a ≡ b) × (r ≡ t)
one_split limit [] [] r t m n x y small wa wb sr st same = (refl, same)
one_split limit [] (body ∷ b) r t m n x y small wa wb sr st same =
    absurd (no_frame limit m body (frames b ++ t) r x small wb.0 (same ∙ frames-cons body b t) sr)
one_split limit (body ∷ a) [] r t m n x y small wa wb sr st same =
    absurd
    (no_frame limit n body (frames a ++ r) t y small wa.0 (sym same ∙ frames-cons body a r) st)
one_split limit (p ∷ a) (q ∷ b) r t m n x y small wa wb sr st same =
    let first =
    one_frame p q (frames a ++ r) (frames b ++ t) (omega (arith, wa.0)) (omega (arith, wb.0))
    (sym (frames-cons p a r) ∙ same ∙ frames-cons q b t) in
    let others = one_split limit a b r t m n x y small wa.1 wb.1 sr st first.1 in (
      ap (λ (body : List ℕ). body ∷ a) first.0
          ∙ ap (λ (bodies : List (List ℕ)). q ∷ bodies) others.0,
      others.1,
    )

-- ---- a framer that stopped

record Stops (limit : ℕ) (parts : FramerParts) (answer : Call) (calls : List Call) : Type 0 where
  bytes : List ℕ
  pieces_are : pieces_fed calls ≡ frames (bodies_given calls) ++ bytes
  within : Within limit (bodies_given calls)
  stops : StopsBefore limit (next_place calls) bytes answer
  rest : answer ≡ Waited → parts.rest ≡ bytes

field_kept : (bytes more : List ℕ) → 4 ≤ length bytes
    → length_field (bytes ++ more) ≡ length_field bytes
field_kept bytes more whole = ap (from_be_bytes w32) (take-append-le 4 bytes more whole)

stops_at : (first limit : ℕ) (parts : FramerParts) (answer : Call) (calls : List Call)
    → StoppedAt first limit parts answer calls → Stops limit parts answer calls
stops_at first limit parts Waited calls h =
    let i = ignores calls in
    let r = h.stands.right.0 in
    let in_force : limit_after first calls ≡ limit = sym h.stands.limit ∙ h.limit_is in
    let rest_is : r.1.0 ≡ parts.rest =
    left_is calls r.1.0 r.1.1.stream_is ∙ sym (left_is calls parts.rest h.stands.left) in
    let partial : IsPartial limit r.1.0 =
    subst (λ (l : ℕ). IsPartial l r.1.0) in_force r.1.1.partial in
    record {
      bytes = parts.rest;
      pieces_are =
          i.pieces_are ∙ ap (λ (t : List ℕ). stream_fed calls ++ t) (i.none r.0)
          ∙ append-nil (stream_fed calls) ∙ h.stands.left;
      within =
          subst (λ (l : ℕ). Within l (bodies_given calls)) in_force
          (given_within first calls h.stands.right.1);
      stops = subst (IsPartial limit) rest_is partial;
      rest = λ e. refl;
    }
stops_at first limit parts (Refused place len) calls h =
    let i = ignores calls in
    let r = h.stands.right.0 in
    let in_force : limit_after first calls ≡ limit = sym h.stands.limit ∙ h.limit_is in
    let bytes : List ℕ = r.1.0 ++ i.more in
    let field : length_field bytes ≡ length_field r.1.0 = field_kept r.1.0 i.more r.1.2.whole in
    record {
      bytes = bytes;
      pieces_are =
          i.pieces_are ∙ ap (λ (t : List ℕ). t ++ i.more) r.1.1
          ∙ append_assoc (frames (bodies_given calls)) r.1.0 i.more;
      within =
          subst (λ (l : ℕ). Within l (bodies_given calls)) in_force
          (given_within first calls h.stands.right.1);
      stops = (
        r.0,
        record {
          whole = omega (arith, r.1.2.whole, length-append r.1.0 i.more);
          above = omega (arith, r.1.2.above, in_force, field);
        },
        r.1.3 ∙ sym field,
      );
      rest = λ e. absurd cc;
    }
stops_at first limit parts (Fed piece) calls h = absurd h.stop
stops_at first limit parts (Gave place body) calls h = absurd h.stop
stops_at first limit parts (Raised higher) calls h = absurd h.stop

pub however_cut : (first limit : ℕ) (p q : FramerParts) (x y : Call) (a b : List Call)
    → limit < 2 ^ 32 → StoppedAt first limit p x a → StoppedAt first limit q y b
    → pieces_fed a ≡ pieces_fed b
    → StoppedAlike p q x y (bodies_given a) (bodies_given b)
however_cut first limit p q x y a b small hp hq same =
    let sp = stops_at first limit p x a hp in
    let sq = stops_at first limit q y b hq in
    let split =
    one_split limit (bodies_given a) (bodies_given b) sp.bytes sq.bytes (next_place a)
    (next_place b) x y small sp.within sq.within sp.stops sq.stops
    (sym sp.pieces_are ∙ same ∙ sq.pieces_are) in
    let place : next_place b ≡ next_place a =
    ap (λ (bodies : List (List ℕ)). length (frames bodies)) (sym split.0) in
    let here : StopsBefore limit (next_place a) sq.bytes y =
    subst (λ (n : ℕ). StopsBefore limit n sq.bytes y) place sq.stops in
    let answers : x ≡ y =
    one_answer limit (next_place a) sp.bytes x y sp.stops
    (subst (λ (t : List ℕ). StopsBefore limit (next_place a) t y) (sym split.1) here) in
    record {
      answers = answers;
      bodies_are = split.0;
      rests = λ e. sp.rest e ∙ split.1 ∙ sym (sq.rest (sym answers ∙ e));
    }
