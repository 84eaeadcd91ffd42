-- A line is read as one of a form exactly where it is spelled so.
use Rattle.std.proofs.Common.{◌≡◌, ℕ, List, [], ◌∷◌, ◌++◌, length, Ok, refl, ap, sym, subst, ◌∙◌}
use Rattle.std.proofs.Common.{append-nil}
use Rattle.std.specs.Prelude.{codes}
use Rattle.text_lines.specs.declared.bytes.WordKind.TheVariants as kind
use Rattle.text_lines.specs.Bytes.{takes, unblanked}
use Rattle.text_lines.specs.Reading.{Text, run_at, word_at, sign_at, literal_at, end_at}
use Rattle.text_lines.proofs.SpelledWords.{on_ok, Gap, Sign, Run, Word, gap_ends, gap_alone}
use Rattle.text_lines.proofs.SpelledWords.{word_tight, word_takes, word_again, sign_takes}
use Rattle.text_lines.proofs.SpelledWords.{sign_again, gap_of, gap_again, gap_breaks, run_takes}
use Rattle.text_lines.proofs.SpelledWords.{end_takes, front_again, behind_again}
use Rattle.text_lines.proofs.SpelledLiterals.{literal_takes, literal_again}
use Rattle.config_text.specs.Shapes.{SettingText, setting_at, section_at, header_at, alias_at}
use Rattle.config_text.specs.Spelling.{SpellsSetting, SpellsSection, SpellsHeader, SpellsAlias}

-- ---- KEY = VALUE

setting_made : (xs : List ℕ) (key : Text × List ℕ) (value : List ℕ) → Word (takes kind.Key) xs key
    → Sign 61 key.1 value
    → SpellsSetting xs
    (record { key = key.0; value = record { text = value; left = length value } })
setting_made xs key value w s =
    record {
      behind_key = w.run.gap.gap;
      behind_sign = s.gap.gap;
      text = cc;
      word = (w.some, w.run.run);
      gaps = (w.run.gap.blank, s.gap.blank);
      tight = s.gap.tight;
      places = (w.run.place, refl);
    }

pub setting_takes : (xs : List ℕ) (s : SettingText) → setting_at xs ≡ Ok s → SpellsSetting xs s
unfolding setting_at
setting_takes xs s h =
    on_ok (word_at (takes kind.Key) xs) _ s h (λ key k h.
    on_ok (sign_at 61 key.1) _ s h (λ value v h.
    let same : (record { key = key.0; value = record { text = value; left = length value } }) ≡ s =
    cc in
    subst (SpellsSetting xs) same
    (setting_made xs key value (word_takes (takes kind.Key) xs key k)
    (sign_takes 61 key.1 value v))))

pub setting_again : (xs : List ℕ) (s : SettingText) → SpellsSetting xs s → setting_at xs ≡ Ok s
unfolding setting_at
setting_again xs s h =
    let tail = h.behind_key ++ 61 ∷ (h.behind_sign ++ s.value.text) in
    let k =
    word_again (takes kind.Key) s.key.text tail h.word
    (gap_breaks kind.Key refl h.behind_key (61 ∷ (h.behind_sign ++ s.value.text)) h.gaps.0
    refl)
    in
    let u = gap_again h.behind_key (61 ∷ (h.behind_sign ++ s.value.text)) h.gaps.0 refl in
    let v = sign_again 61 h.behind_sign s.value.text h.gaps.1 h.tight in
    let e : xs ≡ s.key.text ++ tail = h.text in
    let p = h.places in
    rw (e, k, u, v) (rw (← e, ← p.0, ← p.1) refl)

-- ---- NAME:

abbrev name_run : List ℕ → Text × List ℕ
name_run xs = run_at (takes kind.Name) xs

header_made : (xs : List ℕ) (name : Text × List ℕ) → Run (takes kind.Name) xs name
    → Sign 58 name.1 [] → SpellsHeader xs name.0
header_made xs name r s =
    let last : s.tail ≡ s.gap.gap = s.gap.parts ∙ append-nil s.gap.gap in
    record {
      behind_name = r.gap.gap;
      behind_sign = s.gap.gap;
      text = cc;
      run = r.run;
      gaps = (r.gap.blank, s.gap.blank);
      place = r.place;
    }

pub header_takes : (xs : List ℕ) (name : Text) → header_at xs ≡ Ok name → SpellsHeader xs name
unfolding header_at
header_takes xs name h =
    on_ok (sign_at 58 (name_run xs).1) _ name h (λ rest s h.
    on_ok (end_at rest) _ name h (λ u e h.
    let same : (name_run xs).0 ≡ name = cc in
    subst (SpellsHeader xs) same
    (header_made xs (name_run xs) (run_takes (takes kind.Name) xs)
    (subst (Sign 58 (name_run xs).1) (end_takes rest u e)
    (sign_takes 58 (name_run xs).1 rest s)))))

pub header_again : (xs : List ℕ) (name : Text) → SpellsHeader xs name → header_at xs ≡ Ok name
unfolding header_at
header_again xs name h =
    let tail = h.behind_name ++ 58 ∷ h.behind_sign in
    let k = gap_breaks kind.Name refl h.behind_name (58 ∷ h.behind_sign) h.gaps.0 refl in
    let f = front_again (takes kind.Name) name.text tail h.run k in
    let b = behind_again (takes kind.Name) name.text tail h.run k in
    let u = gap_again h.behind_name (58 ∷ h.behind_sign) h.gaps.0 refl in
    let v = sign_again 58 h.behind_sign [] h.gaps.1 refl in
    let w : sign_at 58 (58 ∷ h.behind_sign) ≡ Ok [] =
    ap (λ (t : List ℕ). sign_at 58 (58 ∷ t)) (sym (append-nil h.behind_sign)) ∙ v in
    let e : xs ≡ name.text ++ tail = h.text in
    let p = h.place in
    rw (e, f, b, u, w) (rw (← e, ← p) refl)

-- ---- an alias alone

alias_made : (xs : List ℕ) (name : Text × List ℕ) → Word (takes kind.Name) xs name → name.1 ≡ []
    → SpellsAlias xs name.0
alias_made xs name w e =
    let last : w.run.tail ≡ w.run.gap.gap =
    w.run.gap.parts ∙ ap (λ (t : List ℕ). w.run.gap.gap ++ t) e ∙ append-nil w.run.gap.gap in
    record {
      behind_name = w.run.gap.gap;
      text = cc;
      word = (w.some, w.run.run);
      gap = w.run.gap.blank;
      place = w.run.place;
    }

pub alias_takes : (xs : List ℕ) (name : Text) → alias_at xs ≡ Ok name → SpellsAlias xs name
unfolding alias_at
alias_takes xs name h =
    on_ok (word_at (takes kind.Name) xs) _ name h (λ n w h.
    on_ok (end_at n.1) _ name h (λ u e h.
    let same : n.0 ≡ name = cc in
    subst (SpellsAlias xs) same
    (alias_made xs n (word_takes (takes kind.Name) xs n w) (end_takes n.1 u e))))

pub alias_again : (xs : List ℕ) (name : Text) → SpellsAlias xs name → alias_at xs ≡ Ok name
unfolding alias_at
alias_again xs name h =
    let e : xs ≡ name.text ++ h.behind_name = h.text in
    let k = word_again (takes kind.Name) name.text h.behind_name h.word
    (gap_ends kind.Name refl h.behind_name h.gap) in
    let u = gap_alone h.behind_name h.gap in
    let p = h.place in
    rw (e, k, u) (rw (← e, ← p) refl)

-- ---- section: NAME

section_made : (xs rest more : List ℕ) (name : Text × List ℕ) → xs ≡ codes "section" ++ rest
    → Gap rest (unblanked rest) → Sign 58 (unblanked rest) more
    → Word (takes kind.Solid) more name → name.1 ≡ [] → SpellsSection xs name.0
section_made xs rest more name front gap sign w e =
    let last : w.run.tail ≡ w.run.gap.gap =
    w.run.gap.parts ∙ ap (λ (t : List ℕ). w.run.gap.gap ++ t) e ∙ append-nil w.run.gap.gap in
    let ends : more ≡ name.0.text ++ w.run.gap.gap =
    w.run.parts ∙ ap (λ (t : List ℕ). name.0.text ++ t) last in
    record {
      behind_section = gap.gap;
      behind_sign = sign.gap.gap;
      behind_name = w.run.gap.gap;
      text = front ∙ ap (λ (t : List ℕ). codes "section" ++ t) cc;
      word = (w.some, w.run.run);
      gaps = (gap.blank, sign.gap.blank, w.run.gap.blank);
      place = w.run.place ∙ ap length ends;
    }

pub section_takes : (xs : List ℕ) (name : Text) → section_at xs ≡ Ok name → SpellsSection xs name
unfolding section_at
section_takes xs name h =
    on_ok (literal_at (codes "section") xs) _ name h (λ rest l h.
    on_ok (sign_at 58 (unblanked rest)) _ name h (λ more s h.
    on_ok (word_at (takes kind.Solid) more) _ name h (λ n w h.
    on_ok (end_at n.1) _ name h (λ u e h.
    let same : n.0 ≡ name = cc in
    subst (SpellsSection xs) same
    (section_made xs rest more n (literal_takes (codes "section") xs rest l) (gap_of rest)
    (sign_takes 58 (unblanked rest) more s) (word_takes (takes kind.Solid) more n w)
    (end_takes n.1 u e))))))

pub section_again : (xs : List ℕ) (name : Text) → SpellsSection xs name → section_at xs ≡ Ok name
unfolding section_at
section_again xs name h =
    let ends = name.text ++ h.behind_name in
    let front =
    literal_again (codes "section") (h.behind_section ++ 58 ∷ (h.behind_sign ++ ends)) in
    let g = gap_again h.behind_section (58 ∷ (h.behind_sign ++ ends)) h.gaps.0 refl in
    let s =
    sign_again 58 h.behind_sign ends h.gaps.1
    (word_tight kind.Solid refl name.text h.behind_name h.word) in
    let w = word_again (takes kind.Solid) name.text h.behind_name h.word
    (gap_ends kind.Solid refl h.behind_name h.gaps.2) in
    let u = gap_alone h.behind_name h.gaps.2 in
    let e : xs ≡ codes "section" ++ (h.behind_section ++ 58 ∷ (h.behind_sign ++ ends)) = h.text in
    let p = h.place in
    rw (e, front, g, s, w, u) (rw (← p) refl)
