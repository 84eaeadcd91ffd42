-- A line is read as a link exactly where it is spelled so.
use Rattle.std.proofs.Common.{◌≡◌, ℕ, true, List, [], ◌∷◌, ◌++◌, length, Ok, Option, Some, refl, ap}
use Rattle.std.proofs.Common.{sym, subst, ◌∙◌, append-nil, arith}
use Rattle.std.specs.Str.{bytes_eq}
use Rattle.std.proofs.lemmas.Slice.Eq.{bytes_eq-Decides}
use Rattle.share_base.specs.declared.shape.Side.{Side}
use Rattle.share_base.specs.declared.shape.Side.TheVariants as side
use Rattle.share_base.proofs.ListTests.{found_passes}
use Rattle.share_base.proofs.SideWords.{side_found}
use Rattle.text_lines.specs.declared.bytes.WordKind.TheVariants as kind
use Rattle.text_lines.specs.Bytes.{takes, is_tight, unblanked}
use Rattle.text_lines.specs.Reading.{Text, word_at, sign_at, end_at, or_left}
use Rattle.text_lines.specs.Spelling.{IsWord}
use Rattle.text_lines.proofs.SpelledWords.{on_ok, or_left_takes, Sign, Word, Breaks, word_takes}
use Rattle.text_lines.proofs.SpelledWords.{word_again, sign_takes, sign_again, gap_breaks, gap_ends}
use Rattle.text_lines.proofs.SpelledWords.{word_tight, end_takes}
use Rattle.share_base.specs.Sides.{side_text, sides, side_named}
use Rattle.config_text.specs.Shapes.{RangeText, LinkText, maybe_range_at, link_at}
use Rattle.config_text.specs.SpellingLinks.{SpellsMaybe, SpellsTarget, SpellsLink}
use Rattle.config_text.proofs.SpelledRanges.{MaybeThen, maybe_takes, maybe_again, maybe_breaks}

-- ---- sides

pub side_takes : (word : List ℕ) (s : Side) → side_named word ≡ Some s → word ≡ side_text s
side_takes word s h =
    sym
    ((bytes_eq-Decides (side_text s) word).0
    (found_passes (λ x. bytes_eq (side_text x) word) sides s h))

-- ---- links

target_made : (xs : List ℕ) (name : Text × List ℕ) (m : Option RangeText × List ℕ)
    → Word (takes kind.Name) xs name → MaybeThen name.1 m → m.1 ≡ [] → SpellsTarget xs name.0 m.0
target_made xs name m w t e =
    let ends : name.1 ≡ t.range ++ t.behind =
    t.parts ∙ ap (λ (x : List ℕ). t.range ++ (t.behind ++ x)) e
    ∙ ap (λ (x : List ℕ). t.range ++ x) (append-nil t.behind) in
    record {
      behind_name = w.run.gap.gap;
      range = t.range;
      behind_range = t.behind;
      text = cc;
      word = (w.some, w.run.run);
      spelled = subst (SpellsMaybe t.range m.0) (ap length ends) t.spelled;
      gaps = (w.run.gap.blank, t.blank);
      place = w.run.place;
    }

link_made : (xs : List ℕ) (word : Text × List ℕ) (side : Side) (source : Option RangeText × List ℕ)
    (rest : List ℕ) (name : Text × List ℕ) (target : Option RangeText × List ℕ)
    → Word (takes kind.Side) xs word → word.0.text ≡ side_text side → MaybeThen word.1 source
    → Sign 61 source.1 rest → SpellsTarget rest name.0 target.0
    → SpellsLink xs
    (record
    { side = side; left = length xs; source = source.0; name = name.0; target = target.0 })
link_made xs word side source rest name target w s m g t =
    let sign : source.1 ≡ 61 ∷ (g.gap.gap ++ rest) = cc in
    let ranged : word.1 ≡ m.range ++ (m.behind ++ 61 ∷ (g.gap.gap ++ rest)) =
    m.parts ∙ ap (λ (x : List ℕ). m.range ++ (m.behind ++ x)) sign in
    record {
      behind_side = w.run.gap.gap;
      range = m.range;
      behind_range = m.behind;
      behind_sign = g.gap.gap;
      ends = rest;
      text =
          w.run.parts ∙ ap (λ (x : List ℕ). x ++ w.run.tail) s
          ∙ ap (λ (x : List ℕ). side_text side ++ x)
          (w.run.gap.parts ∙ ap (λ (x : List ℕ). w.run.gap.gap ++ x) ranged);
      source = subst (SpellsMaybe m.range source.0) (ap length ranged) m.spelled;
      target = t;
      gaps = (w.run.gap.blank, m.blank, g.gap.blank);
      place = refl;
    }

pub link_takes : (xs : List ℕ) (l : LinkText) → link_at xs ≡ Ok l → SpellsLink xs l
unfolding link_at
link_takes xs l h =
    on_ok (word_at (takes kind.Side) xs) _ l h (λ word w h.
    on_ok (or_left (side_named word.0.text) word.0.left) _ l h (λ side s h.
    on_ok (maybe_range_at word.1) _ l h (λ source m h.
    on_ok (sign_at 61 source.1) _ l h (λ rest g h.
    on_ok (word_at (takes kind.Name) rest) _ l h (λ name n h.
    on_ok (maybe_range_at name.1) _ l h (λ target k h.
    on_ok (end_at target.1) _ l h (λ u e h.
    let made : LinkText =
    record {
      side = side;
      left = length xs;
      source = source.0;
      name = name.0;
      target = target.0;
    }
    in
    let same : made ≡ l = cc in
    subst (SpellsLink xs) same
    (link_made xs word side source rest name target (word_takes (takes kind.Side) xs word w)
    (side_takes word.0.text side (or_left_takes (side_named word.0.text) word.0.left side s))
    (maybe_takes word.1 source m) (sign_takes 61 source.1 rest g)
    (target_made rest name target (word_takes (takes kind.Name) rest name n)
    (maybe_takes name.1 target k) (end_takes target.1 u e))))))))))

pub side_word : (s : Side) → IsWord (takes kind.Side) (side_text s)
side_word side.Left = (omega arith, refl)
side_word side.Right = (omega arith, refl)
side_word side.Up = (omega arith, refl)
side_word side.Down = (omega arith, refl)

target_end : (xs : List ℕ) (name : Text) (m : Option RangeText) (t : SpellsTarget xs name m)
    → Breaks (takes kind.Name) (t.behind_name ++ (t.range ++ t.behind_range))
target_end xs name m t =
    gap_breaks kind.Name refl t.behind_name (t.range ++ t.behind_range) t.gaps.0
    (maybe_breaks (takes kind.Name) t.range m t.behind_range (length (t.range ++ t.behind_range))
    refl t.spelled (gap_ends kind.Name refl t.behind_range t.gaps.1))

target_range : (xs : List ℕ) (name : Text) (m : Option RangeText) (t : SpellsTarget xs name m)
    → maybe_range_at (unblanked (t.behind_name ++ (t.range ++ t.behind_range))) ≡ Ok (m, [])
target_range xs name m t =
    let whole : t.behind_range ++ [] ≡ t.behind_range = append-nil t.behind_range in
    ap (λ (x : List ℕ). maybe_range_at (unblanked (t.behind_name ++ (t.range ++ x)))) (sym whole)
    ∙ maybe_again t.range m t.behind_name t.behind_range []
    (subst (λ (x : List ℕ). SpellsMaybe t.range m (length (t.range ++ x))) (sym whole)
    t.spelled)
    t.gaps.0 t.gaps.1 refl refl

pub link_again : (xs : List ℕ) (l : LinkText) → SpellsLink xs l → link_at xs ≡ Ok l
unfolding link_at
link_again xs l h =
    let t = h.target in
    let signed = 61 ∷ (h.behind_sign ++ h.ends) in
    let tail = h.behind_side ++ (h.range ++ (h.behind_range ++ signed)) in
    let breaks =
    gap_breaks kind.Side refl h.behind_side (h.range ++ (h.behind_range ++ signed)) h.gaps.0
    (maybe_breaks (takes kind.Side) h.range l.source (h.behind_range ++ signed)
    (length (h.range ++ (h.behind_range ++ signed))) refl h.source
    (gap_breaks kind.Side refl h.behind_range signed h.gaps.1 refl))
    in
    let w = word_again (takes kind.Side) (side_text l.side) tail (side_word l.side) breaks in
    let m =
    maybe_again h.range l.source h.behind_side h.behind_range signed h.source h.gaps.0 h.gaps.1
    refl refl in
    let tight : is_tight h.ends ≡ true =
    ap is_tight t.text
    ∙ word_tight kind.Name refl l.name.text (t.behind_name ++ (t.range ++ t.behind_range))
    t.word in
    let g = sign_again 61 h.behind_sign h.ends h.gaps.2 tight in
    let n =
    ap (word_at (takes kind.Name)) t.text
    ∙ word_again (takes kind.Name) l.name.text
    (t.behind_name ++ (t.range ++ t.behind_range)) t.word
    (target_end h.ends l.name l.target t) in
    let k = target_range h.ends l.name l.target t in
    let e : xs ≡ side_text l.side ++ tail = h.text in
    let p = h.place in
    let q = t.place in
    let ends : h.ends ≡ l.name.text ++ (t.behind_name ++ (t.range ++ t.behind_range)) = t.text in
    rw (e, w, side_found l.side, m, g, n, k) (rw (← e, ← p, ← ends, ← q) refl)
