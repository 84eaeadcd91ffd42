-- A line counts for nothing, for its words or for a byte that is refused exactly where it is
-- spelled so.
use Rattle.std.proofs.Common.{◌≡◌, ℕ, ◌-◌, ◌<◌, Bool, true, false, not, ◌==◌, List, [], ◌∷◌, ◌++◌}
use Rattle.std.proofs.Common.{length, take, get_or, Option, Some, None, refl, ap, sym, ◌∙◌, inl}
use Rattle.std.proofs.Common.{inr, append_assoc, append-nil, length-append, arith}
use Rattle.std.specs.List.{list_all, position}
use Rattle.std.proofs.lemmas.Bool.{and_parts, and_from, or_cases, eqb-true, ne_eqb, both_ways}
use Rattle.std.proofs.lemmas.Bool.{not-true, not-false, not_from_true, not_from_false}
use Rattle.std.proofs.lemmas.Bool.{false_from_ne_true}
use Rattle.share_base.proofs.Ends.{front_and_last}
use Rattle.share_base.proofs.ListTests.{all_weaker, all_append, all_parts, position_none}
use Rattle.share_base.proofs.ListTests.{none_of_position}
use Rattle.text_lines.specs.Bytes.{is_blank, is_allowed, is_tight, unblanked}
use Rattle.text_lines.specs.Lines.{LineText, Empty, Forbidden, Words, words_from, unless_forbidden}
use Rattle.text_lines.specs.Lines.{uncommented, trimmed, line_text}
use Rattle.text_lines.specs.Spelling.{IsRun, IsGap}
use Rattle.text_lines.specs.SpellingLines.{is_content, IsComment, EndsTight, SpellsEmpty}
use Rattle.text_lines.specs.SpellingLines.{SpellsContent, SpellsForbidden}
use Rattle.text_lines.proofs.FirstPlaces.{found_of, found_again}
use Rattle.text_lines.proofs.LineParts.{is_other, Cut, cut_of, cut_again, end_gap_of}
use Rattle.text_lines.proofs.SpelledWords.{gap_of, gap_again, gap_alone}
use Rattle.text_lines.proofs.Trims.{trimmed_blank, trimmed_solid}
use Rattle.text_lines.proofs.WholeLines.{trimmed_shorter, trimmed_nothing, trimmed_blanks}
use Rattle.text_lines.proofs.WholeLines.{trimmed_twice, trimmed_unblanked}

-- ---- kinds of bytes

-- it may not stand outside a comment
abbrev is_bad : ℕ → Bool
is_bad b = not (is_allowed b)

-- it may, as the bytes before the first bad one are known to
abbrev is_good : ℕ → Bool
is_good b = not (is_bad b)

good_allowed : (b : ℕ) → is_good b ≡ true → is_allowed b ≡ true
good_allowed b h = not-false (is_allowed b) (not-true (is_bad b) h)

allowed_good : (b : ℕ) → is_allowed b ≡ true → is_good b ≡ true
allowed_good b h = not_from_false (is_bad b) (not_from_true (is_allowed b) h)

content_from : (xs : List ℕ) → IsRun is_good xs → IsRun is_other xs → IsRun is_content xs
content_from [] g o = refl
content_from (b ∷ bs) g o =
    let g = and_parts (is_good b) (list_all is_good bs) g in
    let o = and_parts (is_other b) (list_all is_other bs) o in
    and_from (is_content b) (list_all is_content bs)
    (and_from (is_allowed b) (is_other b) (good_allowed b g.0) o.0) (content_from bs g.1 o.1)

content_good : (xs : List ℕ) → IsRun is_content xs → IsRun is_good xs
content_good xs h =
    all_weaker is_content is_good
    (λ b e. allowed_good b (and_parts (is_allowed b) (is_other b) e).0) xs h

content_other : (xs : List ℕ) → IsRun is_content xs → IsRun is_other xs
content_other xs h =
    all_weaker is_content is_other (λ b e. (and_parts (is_allowed b) (is_other b) e).1) xs h

blank_content : (b : ℕ) → is_blank b ≡ true → is_content b ≡ true
blank_content b h =
    elim (or_cases (b == 32) (b == 9) h) [
      | inl e ↦ ap is_content (eqb-true b 32 e)
      | inr e ↦ ap is_content (eqb-true b 9 e)
    ]

gap_content : (gap : List ℕ) → IsGap gap → IsRun is_content gap
gap_content gap h = all_weaker is_blank is_content blank_content gap h

-- ---- what counts of a line without its comment

abbrev counted : List ℕ → LineText
counted line = unless_forbidden (position is_bad line) line

counts_for : (raw line comment : List ℕ) → raw ≡ line ++ comment → IsRun is_other line
    → IsComment comment → line_text raw ≡ counted line
unfolding line_text
counts_for raw line comment text run ends =
    ap counted (ap uncommented text ∙ cut_again line comment run ends)

-- ---- a byte that is refused

no_refusal : (xs : List ℕ) (n place : ℕ) → words_from xs n ≡ Forbidden place → ⊥
no_refusal [] n place h = cc
no_refusal (b ∷ bs) n place h = cc

refused_by : (o : Option ℕ) (line : List ℕ) (place : ℕ) → unless_forbidden o line ≡ Forbidden place
    → o ≡ Some place
refused_by (Some n) line place h = cc
refused_by None line place h =
    absurd (no_refusal (unblanked (trimmed line)) (length (trimmed line)) place h)

forbidden_of : (raw line : List ℕ) (place : ℕ) → Cut raw line → counted line ≡ Forbidden place
    → SpellsForbidden raw place
forbidden_of raw line place cut h =
    let f = found_of is_bad line place (refused_by (position is_bad line) line place h) in
    let other =
    all_parts is_other f.good (f.bad ∷ f.rest) (ap (list_all is_other) (sym f.text) ∙ cut.run)
    in
    record {
      good = f.good;
      bad = f.bad;
      rest = f.rest ++ cut.comment;
      text =
          cut.text ∙ ap (λ (t : List ℕ). t ++ cut.comment) f.text
          ∙ append_assoc f.good (f.bad ∷ f.rest) cut.comment;
      run = content_from f.good f.run other.0;
      forbidden = not-true (is_allowed f.bad) f.passes;
      stands = f.stands;
    }

pub forbidden_takes : (raw : List ℕ) (place : ℕ) → line_text raw ≡ Forbidden place
    → SpellsForbidden raw place
unfolding line_text
forbidden_takes raw place h = forbidden_of raw (uncommented raw) place (cut_of raw) h

bad_other : (b : ℕ) → is_allowed b ≡ false → is_other b ≡ true
bad_other b h =
    not_from_false (b == 35) (ne_eqb b 35 (λ e. both_ways (is_allowed b) h (ap is_allowed e)))

pub forbidden_again : (raw : List ℕ) (place : ℕ) → SpellsForbidden raw place
    → line_text raw ≡ Forbidden place
forbidden_again raw place s =
    let cut = cut_of s.rest in
    let line = s.good ++ s.bad ∷ uncommented s.rest in
    let text : raw ≡ line ++ cut.comment =
    s.text ∙ ap (λ (t : List ℕ). s.good ++ s.bad ∷ t) cut.text
    ∙ sym (append_assoc s.good (s.bad ∷ uncommented s.rest) cut.comment) in
    let run : IsRun is_other line =
    all_append is_other s.good (s.bad ∷ uncommented s.rest) (content_other s.good s.run)
    (and_from (is_other s.bad) (list_all is_other (uncommented s.rest))
    (bad_other s.bad s.forbidden) cut.run)
    in
    counts_for raw line cut.comment text run cut.ends
    ∙ ap (λ (o : Option ℕ). unless_forbidden o line)
    (found_again is_bad s.good s.bad (uncommented s.rest) (content_good s.good s.run)
    (not_from_false (is_allowed s.bad) s.forbidden))
    ∙ ap Forbidden (sym s.stands)

-- ---- a line of content alone

no_bad : (line : List ℕ) → IsRun is_content line
    → counted line ≡ words_from (unblanked (trimmed line)) (length (trimmed line))
no_bad line run =
    ap (λ (o : Option ℕ). unless_forbidden o line)
    (position_none is_bad line (content_good line run))

counts_as : (raw line comment : List ℕ) → raw ≡ line ++ comment → IsRun is_content line
    → IsComment comment
    → line_text raw ≡ words_from (unblanked (trimmed line)) (length (trimmed line))
counts_as raw line comment text run ends =
    counts_for raw line comment text (content_other line run) ends ∙ no_bad line run

-- ---- nothing but blanks and a comment

no_words : (xs : List ℕ) (n : ℕ) → words_from xs n ≡ Empty → xs ≡ []
no_words [] n h = refl
no_words (b ∷ bs) n h = absurd cc

nothing_by : (o : Option ℕ) (line : List ℕ) → position is_bad line ≡ o
    → unless_forbidden o line ≡ Empty → unblanked (trimmed line) ≡ []
nothing_by (Some n) line e h = absurd cc
nothing_by None line e h = no_words (unblanked (trimmed line)) (length (trimmed line)) h

-- a line that has no words is blank
all_blank : (line : List ℕ) → unblanked (trimmed line) ≡ [] → IsGap line
all_blank line none =
    let front = gap_of (trimmed line) in
    let end = end_gap_of line in
    let kept : trimmed line ≡ front.gap =
    front.parts ∙ ap (λ (t : List ℕ). front.gap ++ t) none ∙ append-nil front.gap in
    ap (list_all is_blank) (end.text ∙ ap (λ (t : List ℕ). t ++ end.gap) kept)
    ∙ all_append is_blank front.gap end.gap front.blank end.blank

empty_of : (raw line : List ℕ) → Cut raw line → counted line ≡ Empty → SpellsEmpty raw
empty_of raw line cut h = record {
  gap = line;
  comment = cut.comment;
  text = cut.text;
  blank = all_blank line (nothing_by (position is_bad line) line refl h);
  ends = cut.ends;
}

pub empty_takes : (raw : List ℕ) → line_text raw ≡ Empty → SpellsEmpty raw
unfolding line_text
empty_takes raw h = empty_of raw (uncommented raw) (cut_of raw) h

pub empty_again : (raw : List ℕ) → SpellsEmpty raw → line_text raw ≡ Empty
empty_again raw s =
    let none : trimmed s.gap ≡ [] = trimmed_nothing s.gap (gap_alone s.gap s.blank) in
    counts_as raw s.gap s.comment s.text (gap_content s.gap s.blank) s.ends
    ∙ ap (λ (t : List ℕ). words_from (unblanked t) (length t)) none

-- ---- words

-- what a line's words are, where no byte is refused
record Counted (line words : List ℕ) (end : ℕ) : Type 0 where
  allowed : IsRun is_good line
  some : 0 < length words
  same : unblanked (trimmed line) ≡ words
  place : length (trimmed line) ≡ end

words_by : (line xs words : List ℕ) (n end : ℕ) → IsRun is_good line → unblanked (trimmed line) ≡ xs
    → length (trimmed line) ≡ n → words_from xs n ≡ Words words end → Counted line words end
words_by line [] words n end run e k h = absurd cc
words_by line (b ∷ bs) words n end run e k h =
    let same : b ∷ bs ≡ words = cc in
    record { allowed = run; some = omega (arith, ap length same); same = e ∙ same; place = cc }

counted_by : (o : Option ℕ) (line words : List ℕ) (end : ℕ) → position is_bad line ≡ o
    → unless_forbidden o line ≡ Words words end → Counted line words end
counted_by (Some n) line words end e h = absurd cc
counted_by None line words end e h =
    words_by line (unblanked (trimmed line)) words (length (trimmed line)) end
    (none_of_position is_bad line e) refl refl h

-- words behind which nothing is trimmed end with no blank
trimmed_tight : (words : List ℕ) → trimmed words ≡ words → EndsTight words
trimmed_tight words whole front b e =
    false_from_ne_true (is_blank b)
    (λ h.
    let shorter : words ≡ trimmed front = sym whole ∙ ap trimmed e ∙ trimmed_blank front b h in
    omega (
      arith,
      ap length shorter,
      trimmed_shorter front,
      ap length e,
      length-append front (b ∷ []),
    ))

content_of : (raw line words : List ℕ) (end : ℕ) → Cut raw line → Counted line words end
    → SpellsContent raw words end
content_of raw line words end cut c =
    let front = gap_of (trimmed line) in
    let end_gap = end_gap_of line in
    let kept : trimmed line ≡ front.gap ++ words =
    front.parts ∙ ap (λ (t : List ℕ). front.gap ++ t) c.same in
    let parts : line ≡ front.gap ++ (words ++ end_gap.gap) =
    end_gap.text ∙ ap (λ (t : List ℕ). t ++ end_gap.gap) kept
    ∙ append_assoc front.gap words end_gap.gap in
    let whole : (front.gap ++ (words ++ end_gap.gap)) ++ cut.comment
    ≡ front.gap ++ (words ++ (end_gap.gap ++ cut.comment)) =
    simp append_assoc in
    let run : IsRun is_content (front.gap ++ (words ++ end_gap.gap)) =
    ap (list_all is_content) (sym parts) ∙ content_from line c.allowed cut.run in
    record {
      before = front.gap;
      behind = end_gap.gap;
      comment = cut.comment;
      text = cut.text ∙ ap (λ (t : List ℕ). t ++ cut.comment) parts ∙ whole;
      some = c.some;
      run =
          (all_parts is_content words end_gap.gap
          (all_parts is_content front.gap (words ++ end_gap.gap) run).1).0;
      tight = ap is_tight (sym c.same) ∙ front.tight;
      ends_tight =
          trimmed_tight words
          (ap trimmed (sym c.same) ∙ trimmed_unblanked (trimmed line) (trimmed_twice line)
          ∙ c.same);
      gaps = (front.blank, end_gap.blank);
      ends = cut.ends;
      place = sym c.place ∙ ap length kept;
    }

pub content_takes : (raw words : List ℕ) (end : ℕ) → line_text raw ≡ Words words end
    → SpellsContent raw words end
unfolding line_text
content_takes raw words end h =
    content_of raw (uncommented raw) words end (cut_of raw)
    (counted_by (position is_bad (uncommented raw)) (uncommented raw) words end refl h)

-- a list that ends with no blank keeps all of its bytes
tight_kept : (before words : List ℕ) → 0 < length words → EndsTight words
    → trimmed (before ++ words) ≡ before ++ words
tight_kept before words some tight =
    let front = take (length words - 1) words in
    let b = get_or words (length words - 1) 0 in
    let cut : words ≡ front ++ b ∷ [] = front_and_last words some in
    let whole : before ++ words ≡ (before ++ front) ++ b ∷ [] =
    ap (λ (t : List ℕ). before ++ t) cut ∙ sym (append_assoc before front (b ∷ [])) in
    ap trimmed whole ∙ trimmed_solid (before ++ front) b (tight front b cut) ∙ sym whole

words_there : (words : List ℕ) (n : ℕ) → 0 < length words → words_from words n ≡ Words words n
words_there [] n h = absurd (omega arith)
words_there (b ∷ bs) n h = refl

pub content_again : (raw words : List ℕ) (end : ℕ) → SpellsContent raw words end
    → line_text raw ≡ Words words end
content_again raw words end s =
    let line = s.before ++ (words ++ s.behind) in
    let whole : s.before ++ (words ++ (s.behind ++ s.comment)) ≡ line ++ s.comment =
    simp append_assoc in
    let run : IsRun is_content line =
    all_append is_content s.before (words ++ s.behind) (gap_content s.before s.gaps.0)
    (all_append is_content words s.behind s.run (gap_content s.behind s.gaps.1)) in
    let kept : trimmed line ≡ s.before ++ words =
    ap trimmed (sym (append_assoc s.before words s.behind))
    ∙ trimmed_blanks (s.before ++ words) s.behind (gap_alone s.behind s.gaps.1)
    ∙ tight_kept s.before words s.some s.ends_tight in
    counts_as raw line s.comment (s.text ∙ whole) run s.ends
    ∙ ap (λ (t : List ℕ). words_from (unblanked t) (length t)) kept
    ∙ ap (λ (t : List ℕ). words_from t (length (s.before ++ words)))
    (gap_again s.before words s.gaps.0 s.tight)
    ∙ words_there words (length (s.before ++ words)) s.some ∙ ap (Words words) (sym s.place)
