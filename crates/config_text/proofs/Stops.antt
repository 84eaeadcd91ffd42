-- A line stops to be one of its form where it can't go on.
use Rattle.std.proofs.Common.{◌≡◌, ℕ, Bool, true, false, ◌==◌, List, [], ◌∷◌, ◌++◌, length, Err}
use Rattle.std.proofs.Common.{refl, ap, sym, subst, ◌∙◌, append_assoc, append-nil, arith}
use Rattle.text_lines.specs.declared.bytes.WordKind.TheVariants as kind
use Rattle.text_lines.specs.Bytes.{is_tight, takes}
use Rattle.text_lines.specs.Reading.{Text, run_at, word_at, sign_at, end_at}
use Rattle.text_lines.specs.Spelling.{IsGap, IsRun, IsWord, StopsAt}
use Rattle.text_lines.proofs.SpelledWords.{on_err, Sign, NoSign, Run, Word, Breaks, word_takes}
use Rattle.text_lines.proofs.SpelledWords.{run_takes, sign_takes, sign_again, sign_stops, no_sign}
use Rattle.text_lines.proofs.SpelledWords.{end_stops, gap_again, gap_breaks, behind_again}
use Rattle.text_lines.proofs.Stopping.{NoWord, never_read, word_stops, no_word, same_next}
use Rattle.text_lines.proofs.Stopping.{word_gap_again}
use Rattle.config_text.specs.Shapes.{setting_at, header_at, alias_at}
use Rattle.config_text.specs.Spelling.{SpellsSetting, SpellsHeader, SpellsAlias, IsSetting}
use Rattle.config_text.specs.Spelling.{IsHeader, IsAlias}
use Rattle.config_text.proofs.Spelled.{setting_again, header_again, alias_again}

-- the byte behind a gap is no blank
pub solid_next : (rest : List ℕ) (b : ℕ) (more : List ℕ) → is_tight rest ≡ true → rest ≡ b ∷ more
    → is_tight (b ∷ more) ≡ true
solid_next rest b more t e = ap is_tight (sym e) ∙ t

-- a run and its gap, before any list that begins like the one behind them
pub run_before : (p : ℕ → Bool) (xs : List ℕ) (w : Text × List ℕ) (r : Run p xs w) (b : ℕ)
    (rest more : List ℕ)
    → w.1 ≡ b ∷ rest → Breaks p (r.gap.gap ++ b ∷ more)
run_before p xs w r b rest more e =
    same_next p r.gap.gap b rest more
    (subst (λ (x : List ℕ). Breaks p (r.gap.gap ++ x)) e
    (subst (Breaks p) r.gap.parts r.breaks))

abbrev word_one : List ℕ → Text
word_one xs = record { text = 97 ∷ []; left = length xs }

-- ---- KEY = VALUE

no_equals : (key gap : List ℕ) (b : ℕ) (more : List ℕ) → IsWord (takes kind.Key) key → IsGap gap
    → Breaks (takes kind.Key) (gap ++ b ∷ more) → is_tight (b ∷ more) ≡ true → (b == 61) ≡ false
    → setting_at ((key ++ gap) ++ b ∷ more) ≡ Err (length (b ∷ more))
unfolding setting_at
no_equals key gap b more w g k t d =
    rw (
      append_assoc key gap (b ∷ more),
      word_gap_again (takes kind.Key) key gap (b ∷ more) w g k t,
      no_sign 61 b more d,
    )
    refl

no_key : (b : ℕ) (more : List ℕ) → takes kind.Key b ≡ false
    → setting_at (b ∷ more) ≡ Err (length (b ∷ more))
unfolding setting_at
no_key b more h = rw (no_word (takes kind.Key) b more h) refl

setting_without_key : (xs : List ℕ) (left : ℕ) → NoWord (takes kind.Key) xs left
    → StopsAt IsSetting xs left
setting_without_key xs left n =
    record {
      good = [];
      bad = xs;
      parts = refl;
      place = n.place;
      goes_on = (
        97 ∷ 61 ∷ [],
        (
          record {
            key = record { text = 97 ∷ []; left = 2 };
            value = record { text = []; left = 0 };
          },
          record {
            behind_key = [];
            behind_sign = [];
            text = refl;
            word = (omega arith, refl);
            gaps = (refl, refl);
            tight = refl;
            places = (refl, refl);
          },
        ),
      );
      no_more =
          λ b rest e.
          never_read setting_at SpellsSetting setting_again [] b
          (λ more. (length (b ∷ more), no_key b more (n.other b rest e)));
    }

setting_without_sign : (xs : List ℕ) (key : Text × List ℕ) (left : ℕ) → Word (takes kind.Key) xs key
    → NoSign 61 key.1 left → StopsAt IsSetting xs left
setting_without_sign xs key left w n =
    let good = key.0.text ++ w.run.gap.gap in
    record {
      good = good;
      bad = key.1;
      parts =
          w.run.parts ∙ ap (λ (t : List ℕ). key.0.text ++ t) w.run.gap.parts
          ∙ sym (append_assoc key.0.text w.run.gap.gap key.1);
      place = n.place;
      goes_on = (
        61 ∷ [],
        (
          record {
            key = record { text = key.0.text; left = length (good ++ 61 ∷ []) };
            value = record { text = []; left = 0 };
          },
          record {
            behind_key = w.run.gap.gap;
            behind_sign = [];
            text = append_assoc key.0.text w.run.gap.gap (61 ∷ []);
            word = (w.some, w.run.run);
            gaps = (w.run.gap.blank, refl);
            tight = refl;
            places = (refl, refl);
          },
        ),
      );
      no_more = λ b rest e. never_read setting_at SpellsSetting setting_again good b
          (λ more. (
            length (b ∷ more),
            no_equals key.0.text w.run.gap.gap b more (w.some, w.run.run) w.run.gap.blank
                (run_before (takes kind.Key) xs key w.run b rest more e)
                (solid_next key.1 b rest w.run.gap.tight e) (n.other b rest e),
          ));
    }

pub setting_stops : (xs : List ℕ) (left : ℕ) → setting_at xs ≡ Err left → StopsAt IsSetting xs left
unfolding setting_at
setting_stops xs left h =
    on_err (word_at (takes kind.Key) xs) _ left h
    (λ e. setting_without_key xs left (word_stops (takes kind.Key) xs left e)) (λ key k h.
    on_err (sign_at 61 key.1) _ left h
    (λ e.
    setting_without_sign xs key left (word_takes (takes kind.Key) xs key k)
    (sign_stops 61 key.1 left e))
    (λ value v h. absurd cc))

-- ---- an alias alone

no_alias : (b : ℕ) (more : List ℕ) → takes kind.Name b ≡ false
    → alias_at (b ∷ more) ≡ Err (length (b ∷ more))
unfolding alias_at
no_alias b more h = rw (no_word (takes kind.Name) b more h) refl

two_words : (name gap : List ℕ) (b : ℕ) (more : List ℕ) → IsWord (takes kind.Name) name → IsGap gap
    → Breaks (takes kind.Name) (gap ++ b ∷ more) → is_tight (b ∷ more) ≡ true
    → alias_at ((name ++ gap) ++ b ∷ more) ≡ Err (length (b ∷ more))
unfolding alias_at
two_words name gap b more w g k t =
    rw (
      append_assoc name gap (b ∷ more),
      word_gap_again (takes kind.Name) name gap (b ∷ more) w g k t,
    )
    refl

alias_without_name : (xs : List ℕ) (left : ℕ) → NoWord (takes kind.Name) xs left
    → StopsAt IsAlias xs left
alias_without_name xs left n =
    record {
      good = [];
      bad = xs;
      parts = refl;
      place = n.place;
      goes_on = (
        97 ∷ [],
        (
          word_one (97 ∷ []),
          record {
            behind_name = [];
            text = refl;
            word = (omega arith, refl);
            gap = refl;
            place = refl;
          },
        ),
      );
      no_more =
          λ b rest e.
          never_read alias_at SpellsAlias alias_again [] b
          (λ more. (length (b ∷ more), no_alias b more (n.other b rest e)));
    }

alias_with_more : (xs : List ℕ) (name : Text × List ℕ) (left : ℕ) → Word (takes kind.Name) xs name
    → length name.1 ≡ left → StopsAt IsAlias xs left
alias_with_more xs name left w e =
    let good = name.0.text ++ w.run.gap.gap in
    record {
      good = good;
      bad = name.1;
      parts =
          w.run.parts ∙ ap (λ (t : List ℕ). name.0.text ++ t) w.run.gap.parts
          ∙ sym (append_assoc name.0.text w.run.gap.gap name.1);
      place = e;
      goes_on = (
        [],
        (
          record { text = name.0.text; left = length (good ++ []) },
          record {
            behind_name = w.run.gap.gap;
            text = append-nil good;
            word = (w.some, w.run.run);
            gap = w.run.gap.blank;
            place = refl;
          },
        ),
      );
      no_more = λ b rest e. never_read alias_at SpellsAlias alias_again good b
          (λ more. (
            length (b ∷ more),
            two_words name.0.text w.run.gap.gap b more (w.some, w.run.run) w.run.gap.blank
                (run_before (takes kind.Name) xs name w.run b rest more e)
                (solid_next name.1 b rest w.run.gap.tight e),
          ));
    }

pub alias_stops : (xs : List ℕ) (left : ℕ) → alias_at xs ≡ Err left → StopsAt IsAlias xs left
unfolding alias_at
alias_stops xs left h =
    on_err (word_at (takes kind.Name) xs) _ left h
    (λ e. alias_without_name xs left (word_stops (takes kind.Name) xs left e)) (λ name k h.
    on_err (end_at name.1) _ left h
    (λ e.
    alias_with_more xs name left (word_takes (takes kind.Name) xs name k)
    (end_stops name.1 left e))
    (λ u v h. absurd cc))

-- ---- NAME:

no_colon : (name gap : List ℕ) (b : ℕ) (more : List ℕ) → IsRun (takes kind.Name) name → IsGap gap
    → Breaks (takes kind.Name) (gap ++ b ∷ more) → is_tight (b ∷ more) ≡ true → (b == 58) ≡ false
    → header_at ((name ++ gap) ++ b ∷ more) ≡ Err (length (b ∷ more))
unfolding header_at
no_colon name gap b more r g k t d =
    rw (
      append_assoc name gap (b ∷ more),
      behind_again (takes kind.Name) name (gap ++ b ∷ more) r k,
      gap_again gap (b ∷ more) g t,
      no_sign 58 b more d,
    )
    refl

behind_colon : (name gap next : List ℕ) (b : ℕ) (more : List ℕ) → IsRun (takes kind.Name) name
    → IsGap gap → IsGap next → is_tight (b ∷ more) ≡ true
    → header_at ((name ++ (gap ++ 58 ∷ next)) ++ b ∷ more) ≡ Err (length (b ∷ more))
unfolding header_at
behind_colon name gap next b more r g n t =
    let tail = 58 ∷ (next ++ b ∷ more) in
    let k = gap_breaks kind.Name refl gap tail g refl in
    let flat : (name ++ (gap ++ 58 ∷ next)) ++ b ∷ more ≡ name ++ (gap ++ tail) =
    append_assoc name (gap ++ 58 ∷ next) (b ∷ more)
    ∙ ap (λ (x : List ℕ). name ++ x) (append_assoc gap (58 ∷ next) (b ∷ more)) in
    rw (
      flat,
      behind_again (takes kind.Name) name (gap ++ tail) r k,
      gap_again gap tail g refl,
      sign_again 58 next (b ∷ more) n t,
    )
    refl

header_without_colon : (xs : List ℕ) (name : Text × List ℕ) (left : ℕ)
    → Run (takes kind.Name) xs name → NoSign 58 name.1 left → StopsAt IsHeader xs left
header_without_colon xs name left r n =
    let good = name.0.text ++ r.gap.gap in
    record {
      good = good;
      bad = name.1;
      parts =
          r.parts ∙ ap (λ (t : List ℕ). name.0.text ++ t) r.gap.parts
          ∙ sym (append_assoc name.0.text r.gap.gap name.1);
      place = n.place;
      goes_on = (
        58 ∷ [],
        (
          record { text = name.0.text; left = length (good ++ 58 ∷ []) },
          record {
            behind_name = r.gap.gap;
            behind_sign = [];
            text = append_assoc name.0.text r.gap.gap (58 ∷ []);
            run = r.run;
            gaps = (r.gap.blank, refl);
            place = refl;
          },
        ),
      );
      no_more = λ b rest e. never_read header_at SpellsHeader header_again good b
          (λ more. (
            length (b ∷ more),
            no_colon name.0.text r.gap.gap b more r.run r.gap.blank
                (run_before (takes kind.Name) xs name r b rest more e)
                (solid_next name.1 b rest r.gap.tight e) (n.other b rest e),
          ));
    }

header_with_more : (xs : List ℕ) (name : Text × List ℕ) (rest : List ℕ) (left : ℕ)
    → Run (takes kind.Name) xs name → Sign 58 name.1 rest → length rest ≡ left
    → StopsAt IsHeader xs left
header_with_more xs name rest left r s e =
    let tail = r.gap.gap ++ 58 ∷ s.gap.gap in
    let good = name.0.text ++ tail in
    let signed : name.1 ≡ 58 ∷ (s.gap.gap ++ rest) =
    s.parts ∙ ap (λ (t : List ℕ). 58 ∷ t) s.gap.parts in
    record {
      good = good;
      bad = rest;
      parts =
          r.parts
          ∙ ap (λ (t : List ℕ). name.0.text ++ t)
          (r.gap.parts ∙ ap (λ (t : List ℕ). r.gap.gap ++ t) signed
          ∙ sym (append_assoc r.gap.gap (58 ∷ s.gap.gap) rest))
          ∙ sym (append_assoc name.0.text tail rest);
      place = e;
      goes_on = (
        [],
        (
          record { text = name.0.text; left = length (good ++ []) },
          record {
            behind_name = r.gap.gap;
            behind_sign = s.gap.gap;
            text = append-nil good;
            run = r.run;
            gaps = (r.gap.blank, s.gap.blank);
            place = refl;
          },
        ),
      );
      no_more = λ b more e. never_read header_at SpellsHeader header_again good b
          (λ others. (
            length (b ∷ others),
            behind_colon name.0.text r.gap.gap s.gap.gap b others r.run r.gap.blank
                s.gap.blank (solid_next rest b more s.gap.tight e),
          ));
    }

pub header_stops : (xs : List ℕ) (left : ℕ) → header_at xs ≡ Err left → StopsAt IsHeader xs left
unfolding header_at
header_stops xs left h =
    let name = run_at (takes kind.Name) xs in
    let r = run_takes (takes kind.Name) xs in
    on_err (sign_at 58 name.1) _ left h
    (λ e. header_without_colon xs name left r (sign_stops 58 name.1 left e)) (λ rest k h.
    on_err (end_at rest) _ left h
    (λ e.
    header_with_more xs name rest left r (sign_takes 58 name.1 rest k)
    (end_stops rest left e))
    (λ u v h. absurd cc))
