-- Ranges are read exactly where they are spelled.
use Rattle.std.proofs.Common.{◌≡◌, ℕ, Bool, true, false, cond, List, [], ◌∷◌, ◌++◌, length, Ok}
use Rattle.std.proofs.Common.{Option, Some, None, refl, ap, sym, subst, ◌∙◌, append_assoc, ◌⊎◌, inl}
use Rattle.std.proofs.Common.{inr, Err}
use Rattle.std.specs.Char.{is_ascii_digit}
use Rattle.text_lines.specs.Bytes.{is_tight, unblanked}
use Rattle.text_lines.specs.Reading.{Read, ◌>>=◌, sign_at, number_at, begins}
use Rattle.text_lines.specs.Spelling.{IsGap}
use Rattle.text_lines.proofs.SpelledWords.{on_ok, on_err, Gap, Sign, Breaks, breaks_gap, sign_there}
use Rattle.text_lines.proofs.SpelledWords.{sign_takes, sign_again, gap_again, gap_skipped}
use Rattle.text_lines.proofs.SpelledNumbers.{Number, number_takes, number_again, number_tight}
use Rattle.text_lines.proofs.SpelledNumbers.{blank_no_digit}
use Rattle.config_text.specs.Shapes.{RangeText, range_at, maybe_range_at}
use Rattle.config_text.specs.SpellingLinks.{SpellsRange, SpellsMaybe}

-- ---- a range

range_flat : (a b c d e f tail : List ℕ)
    → (40 ∷ (a ++ (b ++ (c ++ 44 ∷ (d ++ (e ++ (f ++ 41 ∷ []))))))) ++ tail
    ≡ 40 ∷ (a ++ (b ++ (c ++ 44 ∷ (d ++ (e ++ (f ++ 41 ∷ tail))))))
range_flat a b c d e f tail = simp append_assoc

-- a range, and what stands behind it
pub record RangeThen (xs : List ℕ) (r : RangeText × List ℕ) : Type 0 where
  pub range : List ℕ
  pub tail : List ℕ
  pub parts : xs ≡ range ++ tail
  pub spelled : SpellsRange range r.0
  pub gap : Gap tail r.1
  pub place : r.0.left ≡ length xs

range_made : (xs o c e : List ℕ) (a b : ℕ × List ℕ) → Sign 40 xs o → Number o a → Sign 44 a.1 c
    → Number c b → Sign 41 b.1 e
    → RangeThen xs (record { a = a.0; b = b.0; left = length xs }, e)
range_made xs o c e a b opens first comma second ends =
    let range =
    40
    ∷ (opens.gap.gap
    ++ (first.word
    ++ (first.gap.gap
    ++ 44
    ∷ (comma.gap.gap ++ (second.word ++ (second.gap.gap ++ 41 ∷ []))))))
    in
    let flat : xs
    ≡ 40
    ∷ (opens.gap.gap
    ++ (first.word
    ++ (first.gap.gap
    ++ 44
    ∷ (comma.gap.gap
    ++ (second.word ++ (second.gap.gap ++ 41 ∷ ends.tail)))))) =
    cc in
    record {
      range = range;
      tail = ends.tail;
      parts =
          flat
          ∙ sym
          (range_flat opens.gap.gap first.word first.gap.gap comma.gap.gap second.word
          second.gap.gap ends.tail);
      spelled = record {
        first = first.word;
        second = second.word;
        behind_open = opens.gap.gap;
        behind_first = first.gap.gap;
        behind_comma = comma.gap.gap;
        behind_second = second.gap.gap;
        text = refl;
        numbers = (first.number, second.number);
        gaps = (opens.gap.blank, first.gap.blank, comma.gap.blank, second.gap.blank);
      };
      gap = ends.gap;
      place = refl;
    }

pub range_takes : (xs : List ℕ) (r : RangeText × List ℕ) → range_at xs ≡ Ok r → RangeThen xs r
unfolding range_at
range_takes xs r h =
    on_ok (sign_at 40 xs) _ r h (λ o opens h.
    on_ok (number_at o) _ r h (λ a first h.
    on_ok (sign_at 44 a.1) _ r h (λ c comma h.
    on_ok (number_at c) _ r h (λ b second h.
    on_ok (sign_at 41 b.1) _ r h (λ e ends h.
    let text : RangeText = record { a = a.0; b = b.0; left = length xs } in
    let made : RangeText × List ℕ = (text, e) in
    let same : made ≡ r = cc in
    subst (RangeThen xs) same
    (range_made xs o c e a b (sign_takes 40 xs o opens) (number_takes o a first)
    (sign_takes 44 a.1 c comma) (number_takes c b second) (sign_takes 41 b.1 e ends)))))))

digits_end : (gap : List ℕ) (b : ℕ) (rest : List ℕ) → IsGap gap → is_ascii_digit b ≡ false
    → Breaks is_ascii_digit (gap ++ b ∷ rest)
digits_end gap b rest h e = breaks_gap is_ascii_digit blank_no_digit gap (b ∷ rest) h e

pub range_again : (range : List ℕ) (r : RangeText) (tail : List ℕ) → SpellsRange range r
    → r.left ≡ length (range ++ tail) → range_at (range ++ tail) ≡ Ok (r, unblanked tail)
unfolding range_at
range_again range r tail h place =
    let ends = 41 ∷ tail in
    let second = h.second ++ (h.behind_second ++ ends) in
    let comma = 44 ∷ (h.behind_comma ++ second) in
    let first = h.first ++ (h.behind_first ++ comma) in
    let flat : range ++ tail ≡ 40 ∷ (h.behind_open ++ first) =
    ap (λ (t : List ℕ). t ++ tail) h.text
    ∙ range_flat h.behind_open h.first h.behind_first h.behind_comma h.second h.behind_second
    tail in
    let o =
    sign_again 40 h.behind_open first h.gaps.0
    (number_tight h.first r.a (h.behind_first ++ comma) h.numbers.0) in
    let a =
    number_again h.first r.a (h.behind_first ++ comma) h.numbers.0
    (digits_end h.behind_first 44 (h.behind_comma ++ second) h.gaps.1 refl) in
    let u = gap_again h.behind_first comma h.gaps.1 refl in
    let c =
    sign_again 44 h.behind_comma second h.gaps.2
    (number_tight h.second r.b (h.behind_second ++ ends) h.numbers.1) in
    let b =
    number_again h.second r.b (h.behind_second ++ ends) h.numbers.1
    (digits_end h.behind_second 41 tail h.gaps.3 refl) in
    let v = gap_again h.behind_second ends h.gaps.3 refl in
    let e = sign_there 41 tail in
    rw (flat, o, a, u, c, b, v, e)
    (ap
    (λ (n : ℕ).
    let x : Read RangeText =
    Ok (record { a = r.a; b = r.b; left = n }, unblanked tail) in
    x)
    (sym (ap length flat) ∙ sym place))

-- ---- a range or none

-- a range or none, and blanks behind it
pub record MaybeThen (xs : List ℕ) (m : Option RangeText × List ℕ) : Type 0 where
  pub range : List ℕ
  pub behind : List ℕ
  pub parts : xs ≡ range ++ (behind ++ m.1)
  pub blank : IsGap behind
  pub spelled : SpellsMaybe range m.0 (length xs)

maybe_made : (xs : List ℕ) (r : RangeText × List ℕ) → RangeThen xs r → MaybeThen xs (Some r.0, r.1)
maybe_made xs r t =
    record {
      range = t.range;
      behind = t.gap.gap;
      parts = cc;
      blank = t.gap.blank;
      spelled = (t.spelled, t.place);
    }

maybe_then : (t : Bool) (xs : List ℕ) (m : Option RangeText × List ℕ) → begins 40 xs ≡ t
    → cond t (range_at xs >>= λ r. let k : Read (Option RangeText) = Ok (Some r.0, r.1) in k)
    (Ok (None, xs))
    ≡ Ok m
    → MaybeThen xs m
maybe_then true xs m e h =
    on_ok (range_at xs) _ m h (λ r k h.
    let made : Option RangeText × List ℕ = (Some r.0, r.1) in
    let same : made ≡ m = cc in
    subst (MaybeThen xs) same (maybe_made xs r (range_takes xs r k)))
maybe_then false xs m e h =
    let made : Option RangeText × List ℕ = (None, xs) in
    let same : made ≡ m = cc in
    subst (MaybeThen xs) same
    (record { range = []; behind = []; parts = refl; blank = refl; spelled = refl })

cases_then : (t : Bool) (xs : List ℕ) (m : Option RangeText × List ℕ) → begins 40 xs ≡ t
    → cond t (range_at xs >>= λ r. let k : Read (Option RangeText) = Ok (Some r.0, r.1) in k)
    (Ok (None, xs))
    ≡ Ok m
    → ((begins 40 xs ≡ false) × (m.1 ≡ xs))
    ⊎ ((r : RangeText × List ℕ) × RangeThen xs r × (m.1 ≡ r.1))
cases_then true xs m e h =
    on_ok (range_at xs) _ m h (λ r k h.
    let made : Option RangeText × List ℕ = (Some r.0, r.1) in
    let same : made ≡ m = cc in
    inr (r, range_takes xs r k, sym (ap (λ (x : Option RangeText × List ℕ). x.1) same)))
cases_then false xs m e h =
    let made : Option RangeText × List ℕ = (None, xs) in
    let same : made ≡ m = cc in
    inl (e, sym (ap (λ (x : Option RangeText × List ℕ). x.1) same))

-- no range stands there, or one
pub maybe_cases : (xs : List ℕ) (m : Option RangeText × List ℕ) → maybe_range_at xs ≡ Ok m
    → ((begins 40 xs ≡ false) × (m.1 ≡ xs))
    ⊎ ((r : RangeText × List ℕ) × RangeThen xs r × (m.1 ≡ r.1))
unfolding maybe_range_at
maybe_cases xs m h = cases_then (begins 40 xs) xs m refl h

bad_then : (t : Bool) (xs : List ℕ) (left : ℕ) → begins 40 xs ≡ t
    → cond t (range_at xs >>= λ r. let k : Read (Option RangeText) = Ok (Some r.0, r.1) in k)
    (Ok (None, xs))
    ≡ Err left
    → (begins 40 xs ≡ true) × (range_at xs ≡ Err left)
bad_then true xs left e h = on_err (range_at xs) _ left h (λ k. (e, k)) (λ r k h. absurd cc)
bad_then false xs left e h = absurd cc

pub maybe_stops : (xs : List ℕ) (left : ℕ) → maybe_range_at xs ≡ Err left
    → (begins 40 xs ≡ true) × (range_at xs ≡ Err left)
unfolding maybe_range_at
maybe_stops xs left h = bad_then (begins 40 xs) xs left refl h

pub maybe_bad : (xs : List ℕ) (left : ℕ) → begins 40 xs ≡ true → range_at xs ≡ Err left
    → maybe_range_at xs ≡ Err left
unfolding maybe_range_at
maybe_bad xs left e h = rw (e, h) refl

-- the same range at another place
pub moved : (range : List ℕ) (r : RangeText) (left : ℕ) → SpellsRange range r
    → SpellsRange range (record r { left = left })
moved range r left h = record {
  first = h.first;
  second = h.second;
  behind_open = h.behind_open;
  behind_first = h.behind_first;
  behind_comma = h.behind_comma;
  behind_second = h.behind_second;
  text = h.text;
  numbers = h.numbers;
  gaps = h.gaps;
}

pub maybe_takes : (xs : List ℕ) (m : Option RangeText × List ℕ) → maybe_range_at xs ≡ Ok m
    → MaybeThen xs m
unfolding maybe_range_at
maybe_takes xs m h = maybe_then (begins 40 xs) xs m refl h

pub maybe_none : (xs : List ℕ) → begins 40 xs ≡ false → maybe_range_at xs ≡ Ok (None, xs)
unfolding maybe_range_at
maybe_none xs h = rw h refl

pub maybe_some : (range : List ℕ) (r : RangeText) (tail : List ℕ) → SpellsRange range r
    → r.left ≡ length (range ++ tail) → maybe_range_at (range ++ tail) ≡ Ok (Some r, unblanked tail)
unfolding maybe_range_at
maybe_some range r tail h place =
    let open_there : begins 40 (range ++ tail) ≡ true =
    ap (λ (t : List ℕ). begins 40 (t ++ tail)) h.text in
    rw (open_there, range_again range r tail h place) refl

pub range_opens : (range : List ℕ) (r : RangeText) (tail : List ℕ) → SpellsRange range r
    → is_tight (range ++ tail) ≡ true
range_opens range r tail h = ap (λ (t : List ℕ). is_tight (t ++ tail)) h.text

pub maybe_again : (range : List ℕ) (m : Option RangeText) (gap behind rest : List ℕ)
    → SpellsMaybe range m (length (range ++ (behind ++ rest)))
    → IsGap gap → IsGap behind → is_tight rest ≡ true → begins 40 rest ≡ false
    → maybe_range_at (unblanked (gap ++ (range ++ (behind ++ rest)))) ≡ Ok (m, rest)
maybe_again range None gap behind rest s g b t k =
    ap (λ (x : List ℕ). maybe_range_at (unblanked (gap ++ (x ++ (behind ++ rest))))) s
    ∙ ap maybe_range_at (gap_skipped gap (behind ++ rest) g ∙ gap_again behind rest b t)
    ∙ maybe_none rest k
maybe_again range (Some r) gap behind rest s g b t k =
    ap maybe_range_at
    (gap_again gap (range ++ (behind ++ rest)) g (range_opens range r (behind ++ rest) s.0))
    ∙ maybe_some range r (behind ++ rest) s.0 s.1
    ∙ ap (λ (x : List ℕ). let a : Read (Option RangeText) = Ok (Some r, x) in a)
    (gap_again behind rest b t)

-- a word ends before a range or a sign
pub maybe_breaks : (p : ℕ → Bool) (range : List ℕ) (m : Option RangeText) (rest : List ℕ) (left : ℕ)
    → p 40 ≡ false → SpellsMaybe range m left → Breaks p rest → Breaks p (range ++ rest)
maybe_breaks p range None rest left o s r = subst (λ (x : List ℕ). Breaks p (x ++ rest)) (sym s) r
maybe_breaks p range (Some r) rest left o s k =
    subst (λ (x : List ℕ). Breaks p (x ++ rest)) (sym s.0.text) o
