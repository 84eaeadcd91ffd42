-- A framer stands for its calls: a call more.
use Rattle.std.proofs.Common.{◌≡◌, ℕ, ◌+◌, ◌≤◌, Bool, true, false, cond, List, [], ◌∷◌, ◌++◌}
use Rattle.std.proofs.Common.{length, drop, refl, sym, ap, subst, ◌∙◌, append_assoc, arith}
use Rattle.std.specs.List.{AllByRecursion}
use Rattle.std.proofs.lemmas.List.{length-append, append-nil, drop_at}
use Rattle.std.proofs.lemmas.Grind.{flat_map-append}
use Rattle.std.proofs.lemmas.List.Concat.{flat_map-cons}
use Rattle.wire_frames.specs.Framing.{frame, frames, length_field, IsPartial, IsTooLong}
use Rattle.wire_frames.specs.Framers.{FramerParts, begun, fed, moved, refused, raised}
use Rattle.wire_frames.specs.Calls.{Call, Fed, Gave, Waited, Refused, Raised, stream_fed}
use Rattle.wire_frames.specs.Calls.{bodies_given, next_place, limit_after, IsLeft, AreRight}
use Rattle.wire_frames.specs.Calls.{StandsFor}
use Rattle.wire_frames.specs.Steps.{IsFirst}

-- the frames of one body more
pub frames-last : (bodies : List (List ℕ)) (body : List ℕ)
    → frames (bodies ++ body ∷ []) ≡ frames bodies ++ frame body
frames-last bodies body =
    flat_map-append frame bodies (body ∷ [])
    ∙ ap (λ (t : List ℕ). frames bodies ++ t)
    (flat_map-cons frame body [] ∙ append-nil (frame body))

pub length-frame : (body : List ℕ) → length (frame body) ≡ 4 + length body
length-frame body = omega arith

-- ---- within the limit in force

within_more : (low high : ℕ) (bodies : List (List ℕ)) → low ≤ high
    → AllByRecursion (λ body. length body ≤ low) bodies
    → AllByRecursion (λ body. length body ≤ high) bodies
within_more low high [] le all = tt
within_more low high (body ∷ bodies) le all =
    (omega (arith, all.0), within_more low high bodies le all.1)

within_last : (limit : ℕ) (bodies : List (List ℕ)) (body : List ℕ)
    → AllByRecursion (λ b. length b ≤ limit) bodies → length body ≤ limit
    → AllByRecursion (λ b. length b ≤ limit) (bodies ++ body ∷ [])
within_last limit [] body all le = (le, tt)
within_last limit (b ∷ bodies) body all le = (all.0, within_last limit bodies body all.1 le)

-- what was given is within the limit now
pub given_within : (first : ℕ) (calls : List Call) → AreRight first calls
    → AllByRecursion (λ body. length body ≤ limit_after first calls) (bodies_given calls)
given_within first [] right = tt
given_within first (Fed piece ∷ calls) right = given_within first calls right.1
given_within first (Gave place body ∷ calls) right =
    within_last (limit_after first calls) (bodies_given calls) body
    (given_within first calls right.1) right.0.2
given_within first (Waited ∷ calls) right = given_within first calls right.1
given_within first (Refused place len ∷ calls) right = given_within first calls right.1
given_within first (Raised limit ∷ calls) right =
    within_more (limit_after first calls) limit (bodies_given calls) right.0.1
    (given_within first calls right.1)

-- ---- a call more

pub stands_begun : (limit : ℕ) → StandsFor limit (begun limit) []
stands_begun limit =
    record { right = tt; given = refl; left = refl; limit = refl; over = refl; held = refl }

fed_left : (over : Bool) (stream gone rest piece : List ℕ) → stream ≡ gone ++ rest
    → cond over stream (stream ++ piece) ≡ gone ++ cond over rest (rest ++ piece)
fed_left true stream gone rest piece left = left
fed_left false stream gone rest piece left =
    ap (λ (t : List ℕ). t ++ piece) left ∙ append_assoc gone rest piece

-- what is left is the stream without the frames given
pub left_is : (calls : List Call) (rest : List ℕ) → IsLeft calls rest
    → rest ≡ drop (next_place calls) (stream_fed calls)
left_is calls rest left =
    sym (drop_at (frames (bodies_given calls)) rest (next_place calls) refl)
    ∙ ap (drop (next_place calls)) (sym left)

pub stands_fed : (first : ℕ) (f : FramerParts) (piece : List ℕ) (calls : List Call)
    → StandsFor first f calls → StandsFor first (fed f piece) (Fed piece ∷ calls)
stands_fed first f piece calls s = record {
  right = (tt, s.right);
  given = s.given;
  left =
      subst
      (λ (over : Bool). cond over (stream_fed calls) (stream_fed calls ++ piece)
      ≡ frames (bodies_given calls) ++ cond f.over f.rest (f.rest ++ piece))
      s.over (fed_left f.over (stream_fed calls) (frames (bodies_given calls)) f.rest piece s.left);
  limit = s.limit;
  over = s.over;
  held = rw (s.held, s.over, left_is calls f.rest s.left) refl;
}

pub stands_raised : (first : ℕ) (f : FramerParts) (limit : ℕ) (calls : List Call) → f.limit ≤ limit
    → f.over ≡ false → StandsFor first f calls
    → StandsFor first (raised f limit) (Raised limit ∷ calls)
stands_raised first f limit calls le fine s = record {
  right = ((sym s.over ∙ fine, omega (arith, s.limit)), s.right);
  given = s.given;
  left = s.left;
  limit = refl;
  over = s.over;
  held = s.held;
}

pub stands_gave : (first : ℕ) (f : FramerParts) (place : ℕ) (body : List ℕ) (calls : List Call)
    → place ≡ f.given → f.over ≡ false → IsFirst f.limit body f.rest → StandsFor first f calls
    → StandsFor first (moved f (4 + length body) (drop (4 + length body) f.rest))
    (Gave place body ∷ calls)
stands_gave first f place body calls place-is fine front s =
    let rest : List ℕ = drop (4 + length body) f.rest in
    let left : stream_fed calls ≡ frames (bodies_given calls) ++ (frame body ++ rest) =
    s.left ∙ ap (λ (t : List ℕ). frames (bodies_given calls) ++ t) front.front in
    let within : length body ≤ limit_after first calls = omega (arith, front.within, s.limit) in
    record {
      right = ((place-is ∙ s.given, sym s.over ∙ fine, within, (rest, left)), s.right);
      given =
          omega (
            arith,
            s.given,
            ap length (frames-last (bodies_given calls) body),
            length-append (frames (bodies_given calls)) (frame body),
            length-frame body,
          );
      left =
          left ∙ sym (append_assoc (frames (bodies_given calls)) (frame body) rest)
          ∙ ap (λ (t : List ℕ). t ++ rest) (sym (frames-last (bodies_given calls) body));
      limit = s.limit;
      over = s.over;
      held = s.held;
    }

pub stands_waited : (first : ℕ) (f : FramerParts) (calls : List Call) → f.over ≡ false
    → IsPartial f.limit f.rest → StandsFor first f calls → StandsFor first f (Waited ∷ calls)
stands_waited first f calls fine partial s =
    let now : IsPartial (limit_after first calls) f.rest =
    subst (λ (limit : ℕ). IsPartial limit f.rest) s.limit partial in
    record {
      right = (
        (
          sym s.over ∙ fine,
          (
            f.rest,
            record {
              stream_is = s.left;
              within = given_within first calls s.right;
              partial = now;
            },
          ),
        ),
        s.right,
      );
      given = s.given;
      left = s.left;
      limit = s.limit;
      over = s.over;
      held = s.held;
    }

pub stands_refused : (first : ℕ) (f : FramerParts) (place len : ℕ) (calls : List Call)
    → place ≡ f.given → IsTooLong f.limit f.rest → len ≡ length_field f.rest
    → StandsFor first f calls
    → StandsFor first (refused f) (Refused place len ∷ calls)
stands_refused first f place len calls place-is long len-is s = record {
  right = (
    (
      place-is ∙ s.given,
      (
        f.rest,
        s.left,
        record { whole = long.whole; above = omega (arith, long.above, s.limit) },
        len-is,
      ),
    ),
    s.right,
  );
  given = s.given;
  left = s.left;
  limit = s.limit;
  over = refl;
  held = s.held;
}
