-- Where no number stands.
use Rattle.std.proofs.Common.{◌≡◌, ℕ, ◌-◌, Bool, true, false, cond, ◌==◌, List, [], ◌∷◌, length, Ok}
use Rattle.std.proofs.Common.{Err, refl, ap, subst}
use Rattle.std.specs.Char.{is_ascii_digit}
use Rattle.std.proofs.lemmas.Bool.{ne_eqb, both_ways}
use Rattle.text_lines.specs.Bytes.{unblanked}
use Rattle.text_lines.specs.Reading.{Read, further, number_at}

number_then : (z t : Bool) (b : ℕ) (bs : List ℕ) (left : ℕ) → (b == 48) ≡ z → is_ascii_digit b ≡ t
    → cond z (let r : Read ℕ = Ok (0, unblanked bs) in r)
    (cond t
    (let m = further (further (b - 48, bs)) in
    let r : Read ℕ = Ok (m.0, unblanked m.1) in r)
    (Err (length (b ∷ bs))))
    ≡ Err left
    → (t ≡ false) × (length (b ∷ bs) ≡ left)
number_then true t b bs left e k h = absurd cc
number_then false true b bs left e k h = absurd cc
number_then false false b bs left e k h = (refl, cc)

-- no digit stands there
pub record NoDigit (xs : List ℕ) (left : ℕ) : Type 0 where
  pub place : length xs ≡ left
  pub other : (b : ℕ) (rest : List ℕ) → xs ≡ b ∷ rest → is_ascii_digit b ≡ false

pub number_stops : (xs : List ℕ) (left : ℕ) → number_at xs ≡ Err left → NoDigit xs left
unfolding number_at
number_stops [] left h = record { place = cc; other = λ b rest e. absurd cc }
number_stops (x ∷ xs) left h =
    let f = number_then (x == 48) (is_ascii_digit x) x xs left refl refl h in
    record {
      place = f.1;
      other = λ b rest e. let same : x ≡ b = cc in
          subst (λ (c : ℕ). is_ascii_digit c ≡ false) same f.0;
    }

pub no_number : (b : ℕ) (rest : List ℕ) → is_ascii_digit b ≡ false
    → number_at (b ∷ rest) ≡ Err (length (b ∷ rest))
unfolding number_at
no_number b rest h =
    let other : (b == 48) ≡ false =
    ne_eqb b 48 (λ e. both_ways (is_ascii_digit b) h (ap is_ascii_digit e)) in
    rw (other, h) refl
