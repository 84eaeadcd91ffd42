-- What stands at the front of a stream.
use Rattle.std.proofs.Common.{◌≡◌, ℕ, ◌+◌, ◌-◌, ◌^◌, ◌<◌, ◌≤◌, Bool, true, false, List, ◌++◌}
use Rattle.std.proofs.Common.{length, get_or, take, drop, refl, sym, ap, subst, ◌∙◌, append_assoc}
use Rattle.std.proofs.Common.{arith, inl, inr}
use Rattle.std.specs.Prelude.{◌⊎◌}
use Rattle.std.specs.Int.{w32, to_be_bytes}
use Rattle.std.proofs.lemmas.List.{take-append-drop, drop-drop, length-take, length-drop}
use Rattle.std.proofs.lemmas.List.{get_or-take, get_or_past}
use Rattle.std.proofs.lemmas.Bool.{cases_lt}
use Rattle.std.proofs.lemmas.Nat.{be_bytes_4}
use Rattle.wire_frames.specs.Framing.{frame, length_field, IsPartial, IsTooLong}
use Rattle.wire_frames.specs.Framers.{FramerParts, moved}
use Rattle.wire_frames.specs.Steps.{IsFirst}

abbrev pub parts_of : ℕ → ℕ → List ℕ → ℕ → Bool → FramerParts
parts_of gone given bytes limit over =
    record {
      given = gone + given;
      rest = drop given bytes;
      limit = limit;
      over = over;
      held = length bytes;
    }

-- no frame was too long where the front is short, or names a length within the limit
not_over_within : (over : Bool) (limit : ℕ) (bytes : List ℕ) → (over ≡ true → IsTooLong limit bytes)
    → length_field bytes ≤ limit → over ≡ false
not_over_within false limit bytes kept le = refl
not_over_within true limit bytes kept le = absurd (omega (arith, (kept refl).above))

-- the body after a length that is spelled at the front
frame_at : (limit : ℕ) (bytes : List ℕ) (n : ℕ) → to_be_bytes w32 n ≡ take 4 bytes → n ≤ limit
    → 4 + n ≤ length bytes
    → (length (take (4 + n - 4) (drop 4 bytes)) ≡ n)
    × IsFirst limit (take (4 + n - 4) (drop 4 bytes)) bytes
frame_at limit bytes n header le whole =
    let count : 4 + n - 4 ≡ n = omega arith in
    let body : List ℕ = take n (drop 4 bytes) in
    let long : length body ≡ n = omega (arith, length-take n (drop 4 bytes), length-drop 4 bytes) in
    let parts : bytes ≡ take 4 bytes ++ body ++ drop (4 + n) bytes =
    sym (append_assoc (take 4 bytes) body (drop (4 + n) bytes)
    ∙ ap (λ (t : List ℕ). take 4 bytes ++ (body ++ t)) (sym (drop-drop n 4 bytes))
    ∙ ap (λ (t : List ℕ). take 4 bytes ++ t) (take-append-drop n (drop 4 bytes))
    ∙ take-append-drop 4 bytes)
    in
    let spelled : bytes ≡ to_be_bytes w32 n ++ body ++ drop (4 + n) bytes =
    subst (λ (h : List ℕ). bytes ≡ h ++ body ++ drop (4 + n) bytes) (sym header) parts in
    let Q : ℕ → Type 0 = λ m. bytes ≡ to_be_bytes w32 m ++ body ++ drop (4 + m) bytes in
    let front : bytes ≡ frame body ++ drop (4 + length body) bytes = subst Q (sym long) spelled in
    let P : ℕ → Type 0 =
    λ m. (length (take m (drop 4 bytes)) ≡ n) × IsFirst limit (take m (drop 4 bytes)) bytes in
    subst P (sym count) (long, record { front = front; within = omega arith })

-- a frame was given
pub record GivesFrame (f : FramerParts) (body : List ℕ) (new : FramerParts) (at : ℕ) : Type 0 where
  pub left : new ≡ moved f (4 + length body) (drop (4 + length body) f.rest)
  pub place : at ≡ f.given
  pub not_over : f.over ≡ false
  pub first : IsFirst f.limit body f.rest

-- what `next` leaves and answers at a frame; `shown` is the rest as a slice
pub gives_frame : (f : FramerParts) (gone given n limit : ℕ) (over : Bool) (bytes shown : List ℕ)
    → parts_of gone given bytes limit over ≡ f → shown ≡ drop given bytes
    → to_be_bytes w32 n ≡ take 4 shown → n ≡ length_field shown → n ≤ limit → 4 + n ≤ length shown
    → (over ≡ true → IsTooLong limit (drop given bytes))
    → GivesFrame f (take (4 + n - 4) (drop 4 shown))
    (parts_of gone (given + (4 + n)) bytes limit over) (gone + given)
gives_frame f gone given n limit over bytes shown parts shown-is header n-is le whole over_rest =
    let front = frame_at limit shown n header le whole in
    let body : List ℕ = take (4 + n - 4) (drop 4 shown) in
    let start : FramerParts = parts_of gone given bytes limit over in
    let past : gone + (given + (4 + n)) ≡ gone + given + (4 + n) = omega arith in
    let mark : parts_of gone (given + (4 + n)) bytes limit over
    ≡ moved start (4 + n) (drop (4 + n) (drop given bytes)) =
    rw (past, sym (drop-drop (4 + n) given bytes)) refl in
    let left : parts_of gone (given + (4 + n)) bytes limit over
    ≡ moved start (4 + length body) (drop (4 + length body) start.rest) =
    mark ∙ (rw front.0 refl) in
    let fine : over ≡ false =
    not_over_within over limit (drop given bytes) over_rest
    (omega (arith, n-is ∙ ap length_field shown-is)) in
    let first : IsFirst limit body (drop given bytes) =
    subst (λ (r : List ℕ). IsFirst limit body r) shown-is front.1 in
    let P : FramerParts → Type 0 =
    λ g. GivesFrame g body (parts_of gone (given + (4 + n)) bytes limit over) (gone + given) in
    subst P parts (record { left = left; place = refl; not_over = fine; first = first })

abbrev pub IsBytes : List ℕ → Type 0
IsBytes bytes = (i : ℕ) → get_or bytes i 0 < 256

pub IsBytes-take : (n : ℕ) (bytes : List ℕ) → IsBytes bytes → IsBytes (take n bytes)
IsBytes-take n bytes small i =
    elim (cases_lt i n) [
      | inl lt ↦ rw (get_or-take n bytes i 0 lt) (small i)
      | inr le ↦
          rw (get_or_past (take n bytes) i 0 (omega (arith, length-take n bytes))) (omega arith)
    ]

-- the number that four bytes name is spelled by them
pub spelled_at : (bytes : List ℕ) (n : ℕ) → 4 ≤ length bytes → IsBytes bytes
    → n ≡ length_field bytes → to_be_bytes w32 n ≡ take 4 bytes
spelled_at bytes n long small n-is =
    be_bytes_4 (take 4 bytes) n (omega (arith, length-take 4 bytes)) (IsBytes-take 4 bytes small)
    n-is

-- what was given and what is left are what was fed, fewer than 2^63 bytes
pub bounded : (f : FramerParts) (gone given limit : ℕ) (over : Bool) (bytes : List ℕ)
    → parts_of gone given bytes limit over ≡ f → given ≤ length bytes → gone + length bytes < 2 ^ 63
    → f.given + length f.rest < 2 ^ 63
bounded f gone given limit over bytes parts le lt =
    let P : FramerParts → Type 0 = λ g. g.given + length g.rest < 2 ^ 63 in
    subst P parts (omega (arith, length-drop given bytes))

-- less than a frame, a length above the limit, or a frame within it stands at the front
pub front_of : (limit : ℕ) (bytes : List ℕ) → IsBytes bytes
    → IsPartial limit bytes
    ⊎ (IsTooLong limit bytes ⊎ IsFirst limit (take (length_field bytes) (drop 4 bytes)) bytes)
front_of limit bytes small =
    let n : ℕ = length_field bytes in
    elim (cases_lt (length bytes) 4) [
      | inl few ↦ inl (inl few)
      | inr header ↦ elim (cases_lt limit n) [
        | inl above ↦ inr (inl (record { whole = header; above = above }))
        | inr within ↦ elim (cases_lt (length bytes) (4 + n)) [
          | inl fewer ↦ inl (inr (within, fewer))
          | inr whole ↦
              let P : ℕ → Type 0 = λ m. IsFirst limit (take m (drop 4 bytes)) bytes in
              let count : 4 + n - 4 ≡ n = omega arith in
              inr
              (inr
              (subst P count
              (frame_at limit bytes n (spelled_at bytes n header small refl) within
              whole).1))
        ]
      ]
    ]
