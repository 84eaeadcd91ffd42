-- Where a line can't go on as a link.
use Rattle.std.proofs.Common.{◌≡◌, ℕ, cond, List, [], ◌∷◌, ◌++◌, length, Result, Ok, Err, Option}
use Rattle.std.proofs.Common.{Some, None, refl, ap, sym, subst, ◌∙◌, inl, inr, append_assoc}
use Rattle.share_base.specs.declared.shape.Side.{Side}
use Rattle.text_lines.specs.declared.bytes.WordKind.TheVariants as kind
use Rattle.text_lines.specs.Bytes.{takes, front}
use Rattle.text_lines.specs.Reading.{◌>>=◌, Text, run_at, word_at, sign_at, or_left, is_empty}
use Rattle.text_lines.specs.Spelling.{StopsAt}
use Rattle.text_lines.proofs.SpelledWords.{on_err, or_left_takes, Sign, NoSign, word_takes}
use Rattle.text_lines.proofs.SpelledWords.{sign_takes, sign_again, sign_stops, no_sign}
use Rattle.text_lines.proofs.Stopping.{never_read}
use Rattle.share_base.specs.Sides.{side_named}
use Rattle.config_text.specs.Shapes.{LinkText, maybe_range_at, link_at}
use Rattle.config_text.specs.SpellingLinks.{SpellsLink, IsLink, side_first}
use Rattle.config_text.proofs.SpelledLinks.{side_takes, link_again}
use Rattle.config_text.proofs.SpelledRanges.{maybe_cases, maybe_stops}
use Rattle.config_text.proofs.Stops.{solid_next}
use Rattle.config_text.proofs.StopsRanges.{range_stops}
use Rattle.config_text.proofs.StopsTargets.{TargetStops, target_stops}
use Rattle.config_text.proofs.BegunLinks.{Begun, begun_alone, begun_ranged, stops_in_range}
use Rattle.config_text.proofs.BegunLinks.{one_name}

-- ---- at the sign and behind it

stops_at_sign : (side : Side) (xs rest : List ℕ) (left : ℕ) → Begun side xs rest
    → NoSign 61 rest left → StopsAt IsLink xs left
stops_at_sign side xs rest left h n =
    record {
      good = h.begin;
      bad = rest;
      parts = h.parts;
      place = n.place;
      goes_on = (
        61 ∷ 97 ∷ [],
        h.spelled [] (97 ∷ []) (record { text = 97 ∷ []; left = 1 }) None refl one_name,
      );
      no_more = λ b t e. never_read link_at SpellsLink link_again h.begin b
          (λ u.
          let read = h.again b t u e (solid_next rest b t h.tight e) in
          (length (b ∷ u), read.2 ∙ rw (no_sign 61 b u (n.other b t e)) refl));
    }

flat_sign : (a g c xs : List ℕ) → (a ++ 61 ∷ (g ++ c)) ++ xs ≡ a ++ 61 ∷ (g ++ (c ++ xs))
flat_sign a g c xs = simp append_assoc

stops_in_target : (side : Side) (xs rest more : List ℕ) (left : ℕ) → Begun side xs rest
    → Sign 61 rest more → TargetStops more left → StopsAt IsLink xs left
stops_in_target side xs rest more left h s t =
    let gap = s.gap.gap in
    let good = h.begin ++ (61 ∷ (gap ++ t.good)) in
    let spelled : IsLink (h.begin ++ 61 ∷ (gap ++ (t.good ++ t.more))) =
    h.spelled gap (t.good ++ t.more) t.name t.target s.gap.blank t.ends in
    record {
      good = good;
      bad = t.bad;
      parts =
          h.parts
          ∙ ap (λ (x : List ℕ). h.begin ++ x)
          (s.parts
          ∙ ap (λ (x : List ℕ). 61 ∷ x)
          (s.gap.parts ∙ ap (λ (x : List ℕ). gap ++ x) t.parts))
          ∙ sym (flat_sign h.begin gap t.good t.bad);
      place = t.place;
      goes_on = (t.more, subst IsLink (sym (flat_sign h.begin gap t.good t.more)) spelled);
      no_more = λ b others e. never_read link_at SpellsLink link_again good b
          (λ u.
          let read = h.again 61 s.tail (gap ++ (t.good ++ b ∷ u)) s.parts refl in
          let n = t.stuck b others e u side read.0 read.1 in (
            n.0,
            ap link_at (flat_sign h.begin gap t.good (b ∷ u)) ∙ read.2
                ∙ rw (sign_again 61 gap (t.good ++ b ∷ u) s.gap.blank (t.tight b others e u))
                n.1,
          ));
    }

-- ---- the side

none_front : (w xs : List ℕ) (x : Text × List ℕ) (left : ℕ)
    → cond (is_empty w) (Err (length xs)) (Ok x) ≡ Err left → (w ≡ []) × (length xs ≡ left)
none_front [] xs x left h = (refl, cc)
none_front (b ∷ bs) xs x left h = absurd cc

no_first_word : (xs : List ℕ) (left : ℕ) → word_at (takes kind.Side) xs ≡ Err left
    → (front (takes kind.Side) xs ≡ []) × (length xs ≡ left)
unfolding word_at
no_first_word xs left h =
    none_front (front (takes kind.Side) xs) xs (run_at (takes kind.Side) xs) left h

some_front : (w xs : List ℕ) (x y : Text × List ℕ)
    → cond (is_empty w) (Err (length xs)) (Ok x) ≡ Ok y → x ≡ y
some_front [] xs x y h = absurd cc
some_front (b ∷ bs) xs x y h = cc

first_word : (xs : List ℕ) (word : Text × List ℕ) → word_at (takes kind.Side) xs ≡ Ok word
    → run_at (takes kind.Side) xs ≡ word
unfolding word_at
first_word xs word h =
    some_front (front (takes kind.Side) xs) xs (run_at (takes kind.Side) xs) word h

or_left_stops : {A : Type 0} (o : Option A) (left n : ℕ) → or_left o left ≡ Err n
    → (o ≡ None) × (left ≡ n)
or_left_stops None left n h = (refl, cc)
or_left_stops (Some x) left n h = absurd cc

without_side : (r : Result (Text × List ℕ) ℕ) (xs : List ℕ)
    (f : Text × List ℕ → Side → Result LinkText ℕ)
    → word_at (takes kind.Side) xs ≡ r → side_first xs ≡ None
    → (r >>= λ word. or_left (side_named word.0.text) word.0.left >>= f word) ≡ Err (length xs)
without_side (Err n) xs f e h =
    let k = no_first_word xs n e in
    ap (λ (m : ℕ). let a : Result LinkText ℕ = Err m in a) (sym k.1)
without_side (Ok word) xs f e h =
    let same = first_word xs word e in
    let none : side_named word.0.text ≡ None =
    ap (λ (x : Text × List ℕ). side_named x.0.text) (sym same) ∙ h in
    let place : word.0.left ≡ length xs = ap (λ (x : Text × List ℕ). x.0.left) (sym same) in
    ap (λ (o : Option Side). or_left o word.0.left >>= f word) none
    ∙ ap (λ (m : ℕ). let a : Result LinkText ℕ = Err m in a) place

-- a line whose first word is no side stops there
pub link_without_side : (xs : List ℕ) → side_first xs ≡ None → link_at xs ≡ Err (length xs)
unfolding link_at
link_without_side xs h = without_side (word_at (takes kind.Side) xs) xs _ refl h

pub link_stops : (xs : List ℕ) (side : Side) (left : ℕ) → side_first xs ≡ Some side
    → link_at xs ≡ Err left → StopsAt IsLink xs left
unfolding link_at
link_stops xs side left known h =
    on_err (word_at (takes kind.Side) xs) _ left h
    (λ e.
    let n = no_first_word xs left e in
    let nothing : side_named [] ≡ Some side = ap side_named (sym n.0) ∙ known in
    absurd cc)
    (λ word k h.
    let w = word_takes (takes kind.Side) xs word k in
    let same = first_word xs word k in
    let known_word : side_named word.0.text ≡ Some side =
    ap (λ (x : Text × List ℕ). side_named x.0.text) (sym same) ∙ known in
    on_err (or_left (side_named word.0.text) word.0.left) _ left h
    (λ e.
    let n = or_left_stops (side_named word.0.text) word.0.left left e in
    absurd cc)
    (λ found o h.
    let s =
    side_takes word.0.text found (or_left_takes (side_named word.0.text) word.0.left found o) in
    on_err (maybe_range_at word.1) _ left h
    (λ e. let m = maybe_stops word.1 left e in
    stops_in_range found xs word w s left (range_stops word.1 left m.0 m.1))
    (λ source m h.
    let begun : Begun found xs source.1 = elim (maybe_cases word.1 source m) [
      | inl c ↦ subst (Begun found xs) (sym c.1) (begun_alone found xs word w s c.0)
      | inr c ↦ subst (Begun found xs) (sym c.2) (begun_ranged found xs word w s c.0 c.1)
    ] in
    on_err (sign_at 61 source.1) _ left h
    (λ e. stops_at_sign found xs source.1 left begun (sign_stops 61 source.1 left e))
    (λ rest g h.
    let sign = sign_takes 61 source.1 rest g in
    stops_in_target found xs source.1 rest left begun sign
    (target_stops rest left found (length xs) source.0 sign.gap.tight h)))))
