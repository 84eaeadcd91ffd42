-- No frame begins another.
use Rattle.std.proofs.Common.{◌≡◌, ℕ, ◌^◌, ◌<◌, ◌≤◌, List, ◌++◌, length, take, drop, refl, sym, ap}
use Rattle.std.proofs.Common.{◌∙◌, append_assoc, arith, inl, inr}
use Rattle.std.specs.Int.{w32, from_be_bytes, to_be_bytes}
use Rattle.std.proofs.lemmas.List.{take_at, drop_at, length-append}
use Rattle.std.proofs.lemmas.Nat.{from_be_bytes-to_be_bytes_4}
use Rattle.wire_frames.specs.Framing.{frame, length_field, IsPartial, IsTooLong}

pub length_field-frame : (body rest : List ℕ) → length body < 2 ^ 32
    → length_field (frame body ++ rest) ≡ length body
length_field-frame body rest lt =
    let header : take 4 (frame body ++ rest) ≡ to_be_bytes w32 (length body) =
    ap (take 4) (append_assoc (to_be_bytes w32 (length body)) body rest)
    ∙ take_at (to_be_bytes w32 (length body)) (body ++ rest) 4 refl in
    ap (from_be_bytes w32) header ∙ from_be_bytes-to_be_bytes_4 (length body) lt

-- after its length stand the body and the rest
pub drop-frame : (body rest : List ℕ) → drop 4 (frame body ++ rest) ≡ body ++ rest
drop-frame body rest =
    ap (drop 4) (append_assoc (to_be_bytes w32 (length body)) body rest)
    ∙ drop_at (to_be_bytes w32 (length body)) (body ++ rest) 4 refl

pub one_frame : (a b x y : List ℕ) → length a < 2 ^ 32 → length b < 2 ^ 32
    → frame a ++ x ≡ frame b ++ y → (a ≡ b) × (x ≡ y)
one_frame a b x y small_a small_b same =
    let lengths : length a ≡ length b =
    sym (length_field-frame a x small_a) ∙ ap length_field same
    ∙ length_field-frame b y small_b in
    let rests : a ++ x ≡ b ++ y = sym (drop-frame a x) ∙ ap (drop 4) same ∙ drop-frame b y in (
      sym (take_at a x (length a) refl) ∙ ap (take (length a)) rests
          ∙ take_at b y (length a) (sym lengths),
      sym (drop_at a x (length a) refl) ∙ ap (drop (length a)) rests
          ∙ drop_at b y (length a) (sym lengths),
    )

-- where a frame stands, there isn't less than a frame
pub frame_is_whole : (limit : ℕ) (body rest bytes : List ℕ) → length body < 2 ^ 32
    → bytes ≡ frame body ++ rest → IsPartial limit bytes → ⊥
frame_is_whole limit body rest bytes small front partial =
    let field : length_field bytes ≡ length body =
    ap length_field front ∙ length_field-frame body rest small in
    elim partial [
      | inl short ↦ omega (arith, ap length front, length-append (frame body) rest)
      | inr fewer ↦ omega (arith, field, fewer.1, ap length front, length-append (frame body) rest)
    ]

-- where a frame within the limit stands, no length above the limit does
pub frame_fits : (limit : ℕ) (body rest bytes : List ℕ) → length body < 2 ^ 32 → length body ≤ limit
    → bytes ≡ frame body ++ rest → IsTooLong limit bytes → ⊥
frame_fits limit body rest bytes small within front long =
    omega (arith, long.above, ap length_field front ∙ length_field-frame body rest small)
