-- Where a range can't go on.
use Rattle.std.proofs.Common.{◌≡◌, ℕ, true, false, ◌==◌, List, [], ◌∷◌, ◌++◌, length, Ok, Err, refl}
use Rattle.std.proofs.Common.{ap, sym, ◌∙◌, append_assoc, arith}
use Rattle.std.specs.Char.{is_ascii_digit}
use Rattle.std.proofs.lemmas.Bool.{both_ways}
use Rattle.std.proofs.lemmas.Fmt.{decimal_digit}
use Rattle.text_lines.specs.Bytes.{is_tight}
use Rattle.text_lines.specs.Reading.{Read, sign_at, number_at, begins}
use Rattle.text_lines.specs.Spelling.{SpellsNumber}
use Rattle.text_lines.proofs.SpelledWords.{on_err, Sign, NoSign, sign_takes, sign_again, sign_stops}
use Rattle.text_lines.proofs.SpelledWords.{no_sign, gap_again}
use Rattle.text_lines.proofs.SpelledNumbers.{Number, number_takes, number_tight}
use Rattle.text_lines.proofs.NoNumbers.{NoDigit, number_stops, no_number}
use Rattle.config_text.specs.Shapes.{RangeText, range_at}
use Rattle.config_text.specs.SpellingLinks.{SpellsRange}
use Rattle.config_text.proofs.Stops.{solid_next}

-- a range that opens, can be ended behind what is good of it, and is never read over the byte
-- behind that
pub record RangeStops (xs : List ℕ) (left : ℕ) : Type 0 where
  pub good : List ℕ
  pub bad : List ℕ
  pub parts : xs ≡ good ++ bad
  pub place : length bad ≡ left
  pub front : List ℕ
  pub opens : good ≡ 40 ∷ front
  pub more : List ℕ
  pub range : RangeText
  pub ends : SpellsRange (good ++ more) range
  pub stuck : (b : ℕ) (rest : List ℕ) → bad ≡ b ∷ rest → (u : List ℕ)
      → (n : ℕ) × (range_at (good ++ b ∷ u) ≡ Err n)

zero_spelled : SpellsNumber (48 ∷ []) 0
zero_spelled = (sym (decimal_digit 0 (omega arith)), omega arith)

abbrev of_numbers : ℕ → ℕ → RangeText
of_numbers a b = record { a = a; b = b; left = 0 }

-- ---- what is never read

no_first : (xs o : List ℕ) (s : Sign 40 xs o) (b : ℕ) (u : List ℕ) → is_tight (b ∷ u) ≡ true
    → is_ascii_digit b ≡ false
    → range_at (40 ∷ (s.gap.gap ++ b ∷ u)) ≡ Err (length (b ∷ u))
unfolding range_at
no_first xs o s b u t d = rw (sign_again 40 s.gap.gap (b ∷ u) s.gap.blank t, no_number b u d) refl

-- a number's digits and the gap behind them, before a list that begins like the one behind them
number_before : (xs : List ℕ) (n : ℕ × List ℕ) (r : Number xs n) (b : ℕ) (rest u : List ℕ)
    → n.1 ≡ b ∷ rest → is_tight (b ∷ u) ≡ true
    → number_at (r.word ++ (r.gap.gap ++ b ∷ u)) ≡ Ok (n.0, b ∷ u)
number_before xs n r b rest u e t =
    r.again r.gap.gap b rest u (r.gap.parts ∙ ap (λ (x : List ℕ). r.gap.gap ++ x) e)
    ∙ ap (λ (x : List ℕ). let y : Read ℕ = Ok (n.0, x) in y)
    (gap_again r.gap.gap (b ∷ u) r.gap.blank t)

-- the same before a sign, whatever follows it
number_signed : (xs : List ℕ) (n : ℕ × List ℕ) (r : Number xs n) (c : ℕ) (rest : List ℕ)
    (s : Sign c n.1 rest) (u : List ℕ)
    → is_tight (c ∷ u) ≡ true
    → number_at (r.word ++ (r.gap.gap ++ c ∷ u)) ≡ Ok (n.0, c ∷ u)
number_signed xs n r c rest s u t = number_before xs n r c s.tail u s.parts t

no_comma : (xs o : List ℕ) (a : ℕ × List ℕ) (s : Sign 40 xs o) (n : Number o a) (b : ℕ)
    (rest u : List ℕ)
    → a.1 ≡ b ∷ rest → is_tight (b ∷ u) ≡ true → (b == 44) ≡ false
    → range_at (40 ∷ (s.gap.gap ++ (n.word ++ (n.gap.gap ++ b ∷ u)))) ≡ Err (length (b ∷ u))
unfolding range_at
no_comma xs o a s n b rest u e t d =
    rw (
      sign_again 40 s.gap.gap (n.word ++ (n.gap.gap ++ b ∷ u)) s.gap.blank
          (number_tight n.word a.0 (n.gap.gap ++ b ∷ u) n.number),
      number_before o a n b rest u e t,
      no_sign 44 b u d,
    ) refl

no_second : (xs o c : List ℕ) (a : ℕ × List ℕ) (s : Sign 40 xs o) (n : Number o a)
    (k : Sign 44 a.1 c) (b : ℕ) (u : List ℕ)
    → is_tight (b ∷ u) ≡ true → is_ascii_digit b ≡ false
    → range_at (40 ∷ (s.gap.gap ++ (n.word ++ (n.gap.gap ++ 44 ∷ (k.gap.gap ++ b ∷ u)))))
    ≡ Err (length (b ∷ u))
unfolding range_at
no_second xs o c a s n k b u t d =
    let comma = 44 ∷ (k.gap.gap ++ b ∷ u) in
    rw (
      sign_again 40 s.gap.gap (n.word ++ (n.gap.gap ++ comma)) s.gap.blank
          (number_tight n.word a.0 (n.gap.gap ++ comma) n.number),
      number_signed o a n 44 c k (k.gap.gap ++ b ∷ u) refl,
      sign_again 44 k.gap.gap (b ∷ u) k.gap.blank t,
      no_number b u d,
    ) refl

no_close : (xs o c : List ℕ) (a m : ℕ × List ℕ) (s : Sign 40 xs o) (n : Number o a)
    (k : Sign 44 a.1 c) (q : Number c m) (b : ℕ) (rest u : List ℕ)
    → m.1 ≡ b ∷ rest → is_tight (b ∷ u) ≡ true → (b == 41) ≡ false
    → range_at
    (40
    ∷ (s.gap.gap
    ++ (n.word
    ++ (n.gap.gap ++ 44 ∷ (k.gap.gap ++ (q.word ++ (q.gap.gap ++ b ∷ u)))))))
    ≡ Err (length (b ∷ u))
unfolding range_at
no_close xs o c a m s n k q b rest u e t d =
    let second = q.word ++ (q.gap.gap ++ b ∷ u) in
    let comma = 44 ∷ (k.gap.gap ++ second) in
    rw (
      sign_again 40 s.gap.gap (n.word ++ (n.gap.gap ++ comma)) s.gap.blank
          (number_tight n.word a.0 (n.gap.gap ++ comma) n.number),
      number_signed o a n 44 c k (k.gap.gap ++ second) refl,
      sign_again 44 k.gap.gap second k.gap.blank
          (number_tight q.word m.0 (q.gap.gap ++ b ∷ u) q.number),
      number_before c m q b rest u e t,
      no_sign 41 b u d,
    ) refl

-- ---- where it stops

flat_two : (a b c xs : List ℕ) → (40 ∷ (a ++ (b ++ c))) ++ xs ≡ 40 ∷ (a ++ (b ++ (c ++ xs)))
flat_two a b c xs = simp append_assoc

flat_three : (a b c d xs : List ℕ)
    → (40 ∷ (a ++ (b ++ (c ++ 44 ∷ d)))) ++ xs ≡ 40 ∷ (a ++ (b ++ (c ++ 44 ∷ (d ++ xs))))
flat_three a b c d xs = simp append_assoc

flat_four : (a b c d e f xs : List ℕ)
    → (40 ∷ (a ++ (b ++ (c ++ 44 ∷ (d ++ (e ++ f)))))) ++ xs
    ≡ 40 ∷ (a ++ (b ++ (c ++ 44 ∷ (d ++ (e ++ (f ++ xs))))))
flat_four a b c d e f xs = simp append_assoc

without_first : (xs o : List ℕ) (left : ℕ) → Sign 40 xs o → NoDigit o left → RangeStops xs left
without_first xs o left s n =
    record {
      good = 40 ∷ s.gap.gap;
      bad = o;
      parts = s.parts ∙ ap (λ (t : List ℕ). 40 ∷ t) s.gap.parts;
      place = n.place;
      front = s.gap.gap;
      opens = refl;
      more = 48 ∷ 44 ∷ 48 ∷ 41 ∷ [];
      range = of_numbers 0 0;
      ends = record {
        first = 48 ∷ [];
        second = 48 ∷ [];
        behind_open = s.gap.gap;
        behind_first = [];
        behind_comma = [];
        behind_second = [];
        text = refl;
        numbers = (zero_spelled, zero_spelled);
        gaps = (s.gap.blank, refl, refl, refl);
      };
      stuck =
          λ b rest e u. (
            length (b ∷ u),
            no_first xs o s b u (solid_next o b rest s.gap.tight e) (n.other b rest e),
          );
    }

without_comma : (xs o : List ℕ) (a : ℕ × List ℕ) (left : ℕ) → Sign 40 xs o → Number o a
    → NoSign 44 a.1 left → RangeStops xs left
without_comma xs o a left s n k =
    let good = 40 ∷ (s.gap.gap ++ (n.word ++ n.gap.gap)) in
    let text : xs ≡ 40 ∷ (s.gap.gap ++ (n.word ++ (n.gap.gap ++ a.1))) = cc in
    record {
      good = good;
      bad = a.1;
      parts = text ∙ sym (flat_two s.gap.gap n.word n.gap.gap a.1);
      place = k.place;
      front = s.gap.gap ++ (n.word ++ n.gap.gap);
      opens = refl;
      more = 44 ∷ 48 ∷ 41 ∷ [];
      range = of_numbers a.0 0;
      ends = record {
        first = n.word;
        second = 48 ∷ [];
        behind_open = s.gap.gap;
        behind_first = n.gap.gap;
        behind_comma = [];
        behind_second = [];
        text = flat_two s.gap.gap n.word n.gap.gap (44 ∷ 48 ∷ 41 ∷ []);
        numbers = (n.number, zero_spelled);
        gaps = (s.gap.blank, n.gap.blank, refl, refl);
      };
      stuck = λ b rest e u. (
        length (b ∷ u),
        ap range_at (flat_two s.gap.gap n.word n.gap.gap (b ∷ u))
            ∙ no_comma xs o a s n b rest u e (solid_next a.1 b rest n.gap.tight e)
            (k.other b rest e),
      );
    }

without_second : (xs o c : List ℕ) (a : ℕ × List ℕ) (left : ℕ) → Sign 40 xs o → Number o a
    → Sign 44 a.1 c → NoDigit c left → RangeStops xs left
without_second xs o c a left s n k d =
    let good = 40 ∷ (s.gap.gap ++ (n.word ++ (n.gap.gap ++ 44 ∷ k.gap.gap))) in
    let text : xs ≡ 40 ∷ (s.gap.gap ++ (n.word ++ (n.gap.gap ++ 44 ∷ (k.gap.gap ++ c)))) = cc in
    record {
      good = good;
      bad = c;
      parts = text ∙ sym (flat_three s.gap.gap n.word n.gap.gap k.gap.gap c);
      place = d.place;
      front = s.gap.gap ++ (n.word ++ (n.gap.gap ++ 44 ∷ k.gap.gap));
      opens = refl;
      more = 48 ∷ 41 ∷ [];
      range = of_numbers a.0 0;
      ends = record {
        first = n.word;
        second = 48 ∷ [];
        behind_open = s.gap.gap;
        behind_first = n.gap.gap;
        behind_comma = k.gap.gap;
        behind_second = [];
        text = flat_three s.gap.gap n.word n.gap.gap k.gap.gap (48 ∷ 41 ∷ []);
        numbers = (n.number, zero_spelled);
        gaps = (s.gap.blank, n.gap.blank, k.gap.blank, refl);
      };
      stuck = λ b rest e u. (
        length (b ∷ u),
        ap range_at (flat_three s.gap.gap n.word n.gap.gap k.gap.gap (b ∷ u))
            ∙ no_second xs o c a s n k b u (solid_next c b rest k.gap.tight e)
            (d.other b rest e),
      );
    }

without_close : (xs o c : List ℕ) (a m : ℕ × List ℕ) (left : ℕ) → Sign 40 xs o → Number o a
    → Sign 44 a.1 c → Number c m → NoSign 41 m.1 left → RangeStops xs left
without_close xs o c a m left s n k q d =
    let good =
    40 ∷ (s.gap.gap ++ (n.word ++ (n.gap.gap ++ 44 ∷ (k.gap.gap ++ (q.word ++ q.gap.gap))))) in
    let text : xs
    ≡ 40
    ∷ (s.gap.gap
    ++ (n.word
    ++ (n.gap.gap ++ 44 ∷ (k.gap.gap ++ (q.word ++ (q.gap.gap ++ m.1)))))) =
    cc in
    record {
      good = good;
      bad = m.1;
      parts = text ∙ sym (flat_four s.gap.gap n.word n.gap.gap k.gap.gap q.word q.gap.gap m.1);
      place = d.place;
      front = s.gap.gap ++ (n.word ++ (n.gap.gap ++ 44 ∷ (k.gap.gap ++ (q.word ++ q.gap.gap))));
      opens = refl;
      more = 41 ∷ [];
      range = of_numbers a.0 m.0;
      ends = record {
        first = n.word;
        second = q.word;
        behind_open = s.gap.gap;
        behind_first = n.gap.gap;
        behind_comma = k.gap.gap;
        behind_second = q.gap.gap;
        text = flat_four s.gap.gap n.word n.gap.gap k.gap.gap q.word q.gap.gap (41 ∷ []);
        numbers = (n.number, q.number);
        gaps = (s.gap.blank, n.gap.blank, k.gap.blank, q.gap.blank);
      };
      stuck = λ b rest e u. (
        length (b ∷ u),
        ap range_at (flat_four s.gap.gap n.word n.gap.gap k.gap.gap q.word q.gap.gap (b ∷ u))
            ∙ no_close xs o c a m s n k q b rest u e (solid_next m.1 b rest q.gap.tight e)
            (d.other b rest e),
      );
    }

no_open : (xs : List ℕ) (left : ℕ) → begins 40 xs ≡ true → NoSign 40 xs left → ⊥
no_open [] left h n = cc
no_open (x ∷ xs) left h n = both_ways (x == 40) (n.other x xs refl) h

pub range_stops : (xs : List ℕ) (left : ℕ) → begins 40 xs ≡ true → range_at xs ≡ Err left
    → RangeStops xs left
unfolding range_at
range_stops xs left t h =
    on_err (sign_at 40 xs) _ left h (λ e. absurd (no_open xs left t (sign_stops 40 xs left e)))
    (λ o s h.
    let s = sign_takes 40 xs o s in
    on_err (number_at o) _ left h (λ e. without_first xs o left s (number_stops o left e)) (λ a n h.
    let n = number_takes o a n in
    on_err (sign_at 44 a.1) _ left h (λ e. without_comma xs o a left s n (sign_stops 44 a.1 left e))
    (λ c k h.
    let k = sign_takes 44 a.1 c k in
    on_err (number_at c) _ left h (λ e. without_second xs o c a left s n k (number_stops c left e))
    (λ m q h.
    let q = number_takes c m q in
    on_err (sign_at 41 m.1) _ left h
    (λ e. without_close xs o c a m left s n k q (sign_stops 41 m.1 left e))
    (λ e f h. absurd cc)))))
