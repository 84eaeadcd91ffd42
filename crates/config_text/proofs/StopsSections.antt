-- Where a line stops to open a section.
use Rattle.std.proofs.Common.{◌≡◌, ℕ, true, false, ◌==◌, List, [], ◌∷◌, ◌++◌, length, Err, refl, ap}
use Rattle.std.proofs.Common.{sym, ◌∙◌, append_assoc, append-nil, arith}
use Rattle.std.specs.Prelude.{codes}
use Rattle.std.proofs.lemmas.Bool.{both_ways}
use Rattle.text_lines.specs.declared.bytes.WordKind.TheVariants as kind
use Rattle.text_lines.specs.Bytes.{is_tight, takes, unblanked}
use Rattle.text_lines.specs.Reading.{Text, word_at, sign_at, literal_at, end_at}
use Rattle.text_lines.specs.Spelling.{IsGap, IsWord, StopsAt}
use Rattle.text_lines.proofs.SpelledWords.{on_err, Gap, Sign, NoSign, Word, Breaks, gap_of}
use Rattle.text_lines.proofs.SpelledWords.{word_takes, sign_takes, sign_again, sign_stops, no_sign}
use Rattle.text_lines.proofs.SpelledWords.{end_stops, gap_again, word_tight}
use Rattle.text_lines.proofs.SpelledLiterals.{Stuck, literal_takes, literal_again, literal_stops}
use Rattle.text_lines.proofs.SpelledLiterals.{no_literal}
use Rattle.text_lines.proofs.Stopping.{NoWord, never_read, word_stops, word_gap_again}
use Rattle.config_text.specs.Shapes.{section_at}
use Rattle.config_text.specs.Spelling.{SpellsSection, IsSection}
use Rattle.config_text.proofs.Spelled.{section_again}
use Rattle.config_text.proofs.Stops.{solid_next, run_before}

abbrev section_word : List ℕ
section_word = codes "section"

-- ---- what is never read

no_section : (done : List ℕ) (next : ℕ) (others : List ℕ) (b : ℕ) (more : List ℕ)
    → section_word ≡ done ++ next ∷ others → (b == next) ≡ false
    → section_at (done ++ b ∷ more) ≡ Err (length (b ∷ more))
unfolding section_at
no_section done next others b more w d =
    let e : literal_at section_word (done ++ b ∷ more) ≡ Err (length (b ∷ more)) =
    ap (λ (x : List ℕ). literal_at x (done ++ b ∷ more)) w
    ∙ no_literal done next others b more d in
    rw e refl

no_colon : (gap : List ℕ) (b : ℕ) (more : List ℕ) → IsGap gap → is_tight (b ∷ more) ≡ true
    → (b == 58) ≡ false
    → section_at ((section_word ++ gap) ++ b ∷ more) ≡ Err (length (b ∷ more))
unfolding section_at
no_colon gap b more g t d =
    rw (
      append_assoc section_word gap (b ∷ more),
      literal_again section_word (gap ++ b ∷ more),
      gap_again gap (b ∷ more) g t,
      no_sign 58 b more d,
    )
    refl

abbrev opened : List ℕ → List ℕ → List ℕ
opened gap next = section_word ++ (gap ++ 58 ∷ next)

section_flat : (gap next name last rest : List ℕ)
    → opened gap (next ++ (name ++ last)) ++ rest
    ≡ section_word ++ (gap ++ 58 ∷ (next ++ (name ++ (last ++ rest))))
section_flat gap next name last rest = simp append_assoc

two_words : (gap next name last : List ℕ) (b : ℕ) (more : List ℕ) → IsGap gap → IsGap next
    → IsWord (takes kind.Solid) name → IsGap last → Breaks (takes kind.Solid) (last ++ b ∷ more)
    → is_tight (b ∷ more) ≡ true
    → section_at (opened gap (next ++ (name ++ last)) ++ b ∷ more) ≡ Err (length (b ∷ more))
unfolding section_at
two_words gap next name last b more g n w l k t =
    let ends = name ++ (last ++ b ∷ more) in
    let flat : opened gap (next ++ (name ++ last)) ++ b ∷ more
    ≡ section_word ++ (gap ++ 58 ∷ (next ++ ends)) =
    section_flat gap next name last (b ∷ more) in
    rw (
      flat,
      literal_again section_word (gap ++ 58 ∷ (next ++ ends)),
      gap_again gap (58 ∷ (next ++ ends)) g refl,
      sign_again 58 next ends n (word_tight kind.Solid refl name (last ++ b ∷ more) w),
      word_gap_again (takes kind.Solid) name last (b ∷ more) w l k t,
    ) refl

-- ---- where it stops

without_word : (xs : List ℕ) (left : ℕ) → Stuck section_word xs left → StopsAt IsSection xs left
without_word xs left s =
    let text : s.done ++ (s.next ∷ (s.others ++ 58 ∷ 97 ∷ [])) ≡ section_word ++ 58 ∷ 97 ∷ [] =
    sym
    (ap (λ (x : List ℕ). x ++ 58 ∷ 97 ∷ []) s.word
    ∙ append_assoc s.done (s.next ∷ s.others) (58 ∷ 97 ∷ []))
    in
    record {
      good = s.done;
      bad = s.bad;
      parts = s.parts;
      place = s.place;
      goes_on = (
        s.next ∷ (s.others ++ 58 ∷ 97 ∷ []),
        (
          record { text = 97 ∷ []; left = 1 },
          record {
            behind_section = [];
            behind_sign = [];
            behind_name = [];
            text = text;
            word = (omega arith, refl);
            gaps = (refl, refl, refl);
            place = refl;
          },
        ),
      );
      no_more =
          λ b rest e.
          never_read section_at SpellsSection section_again s.done b
          (λ more. (
            length (b ∷ more),
            no_section s.done s.next s.others b more s.word (s.other b rest e),
          ));
    }

without_colon : (xs rest : List ℕ) (left : ℕ) → xs ≡ section_word ++ rest
    → Gap rest (unblanked rest) → NoSign 58 (unblanked rest) left → StopsAt IsSection xs left
without_colon xs rest left front gap n =
    let good = section_word ++ gap.gap in
    record {
      good = good;
      bad = unblanked rest;
      parts =
          front ∙ ap (λ (t : List ℕ). section_word ++ t) gap.parts
          ∙ sym (append_assoc section_word gap.gap (unblanked rest));
      place = n.place;
      goes_on = (
        58 ∷ 97 ∷ [],
        (
          record { text = 97 ∷ []; left = 1 },
          record {
            behind_section = gap.gap;
            behind_sign = [];
            behind_name = [];
            text = append_assoc section_word gap.gap (58 ∷ 97 ∷ []);
            word = (omega arith, refl);
            gaps = (gap.blank, refl, refl);
            place = refl;
          },
        ),
      );
      no_more = λ b others e. never_read section_at SpellsSection section_again good b
          (λ more. (
            length (b ∷ more),
            no_colon gap.gap b more gap.blank
                (solid_next (unblanked rest) b others gap.tight e) (n.other b others e),
          ));
    }

-- what stands behind the sign
record Opens (xs more : List ℕ) : Type 0 where
  gap : List ℕ
  next : List ℕ
  parts : xs ≡ section_word ++ (gap ++ 58 ∷ (next ++ more))
  gaps : IsGap gap × IsGap next
  tight : is_tight more ≡ true

opens : (xs rest more : List ℕ) → xs ≡ section_word ++ rest → Gap rest (unblanked rest)
    → Sign 58 (unblanked rest) more → Opens xs more
opens xs rest more front gap sign = record {
  gap = gap.gap;
  next = sign.gap.gap;
  parts =
      front
      ∙ ap (λ (t : List ℕ). section_word ++ t)
      (gap.parts
      ∙ ap (λ (t : List ℕ). gap.gap ++ t)
      (sign.parts ∙ ap (λ (t : List ℕ). 58 ∷ t) sign.gap.parts));
  gaps = (gap.blank, sign.gap.blank);
  tight = sign.gap.tight;
}

-- a byte that is no blank is one of a name
no_byte : (b : ℕ) (more : List ℕ) → is_tight (b ∷ more) ≡ true → takes kind.Solid b ≡ false → ⊥
no_byte b more t h = both_ways (takes kind.Solid b) h t

opened_flat : (gap next rest : List ℕ)
    → opened gap next ++ rest ≡ section_word ++ (gap ++ 58 ∷ (next ++ rest))
opened_flat gap next rest = simp append_assoc

without_name : (xs more : List ℕ) (left : ℕ) → Opens xs more → NoWord (takes kind.Solid) more left
    → StopsAt IsSection xs left
without_name xs more left o n =
    record {
      good = opened o.gap o.next;
      bad = more;
      parts = o.parts ∙ sym (opened_flat o.gap o.next more);
      place = n.place;
      goes_on = (
        97 ∷ [],
        (
          record { text = 97 ∷ []; left = 1 },
          record {
            behind_section = o.gap;
            behind_sign = o.next;
            behind_name = [];
            text = opened_flat o.gap o.next (97 ∷ []);
            word = (omega arith, refl);
            gaps = (o.gaps.0, o.gaps.1, refl);
            place = refl;
          },
        ),
      );
      no_more = λ b rest e go. no_byte b rest (solid_next more b rest o.tight e) (n.other b rest e);
    }

with_more : (xs more : List ℕ) (name : Text × List ℕ) (left : ℕ) → Opens xs more
    → Word (takes kind.Solid) more name → length name.1 ≡ left → StopsAt IsSection xs left
with_more xs more name left o w e =
    let last = w.run.gap.gap in
    let good = opened o.gap (o.next ++ (name.0.text ++ last)) in
    let word : more ≡ name.0.text ++ (last ++ name.1) =
    w.run.parts ∙ ap (λ (t : List ℕ). name.0.text ++ t) w.run.gap.parts in
    record {
      good = good;
      bad = name.1;
      parts =
          o.parts ∙ ap (λ (t : List ℕ). section_word ++ (o.gap ++ 58 ∷ (o.next ++ t))) word
          ∙ sym (section_flat o.gap o.next name.0.text last name.1);
      place = e;
      goes_on = (
        [],
        (
          record { text = name.0.text; left = length (name.0.text ++ last) },
          record {
            behind_section = o.gap;
            behind_sign = o.next;
            behind_name = last;
            text = append-nil good;
            word = (w.some, w.run.run);
            gaps = (o.gaps.0, o.gaps.1, w.run.gap.blank);
            place = refl;
          },
        ),
      );
      no_more = λ b rest e. never_read section_at SpellsSection section_again good b
          (λ others. (
            length (b ∷ others),
            two_words o.gap o.next name.0.text last b others o.gaps.0 o.gaps.1
                (w.some, w.run.run) w.run.gap.blank
                (run_before (takes kind.Solid) more name w.run b rest others e)
                (solid_next name.1 b rest w.run.gap.tight e),
          ));
    }

pub section_stops : (xs : List ℕ) (left : ℕ) → section_at xs ≡ Err left → StopsAt IsSection xs left
unfolding section_at
section_stops xs left h =
    on_err (literal_at section_word xs) _ left h
    (λ e. without_word xs left (literal_stops section_word xs left e)) (λ rest l h.
    let front = literal_takes section_word xs rest l in
    on_err (sign_at 58 (unblanked rest)) _ left h
    (λ e.
    without_colon xs rest left front (gap_of rest) (sign_stops 58 (unblanked rest) left e))
    (λ more s h.
    let o = opens xs rest more front (gap_of rest) (sign_takes 58 (unblanked rest) more s) in
    on_err (word_at (takes kind.Solid) more) _ left h
    (λ e. without_name xs more left o (word_stops (takes kind.Solid) more left e)) (λ name w h.
    on_err (end_at name.1) _ left h
    (λ e.
    with_more xs more name left o (word_takes (takes kind.Solid) more name w)
    (end_stops name.1 left e))
    (λ u v h. absurd cc))))
