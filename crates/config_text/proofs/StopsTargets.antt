-- Where a link's other end can't go on.
use Rattle.std.proofs.Common.{◌≡◌, ℕ, Bool, true, false, List, [], ◌∷◌, ◌++◌, length, Result, Ok}
use Rattle.std.proofs.Common.{Err, Option, Some, None, refl, ap, sym, subst, ◌∙◌, inl, inr}
use Rattle.std.proofs.Common.{append_assoc, append-nil, arith}
use Rattle.share_base.specs.declared.shape.Side.{Side}
use Rattle.text_lines.specs.declared.bytes.WordKind.TheVariants as kind
use Rattle.text_lines.specs.Bytes.{takes, is_tight}
use Rattle.text_lines.specs.Reading.{◌>>=◌, Text, word_at, end_at, begins}
use Rattle.text_lines.specs.Spelling.{IsWord}
use Rattle.text_lines.proofs.SpelledWords.{on_err, Word, Breaks, gap_breaks, gap_again, word_takes}
use Rattle.text_lines.proofs.SpelledWords.{word_tight, end_stops}
use Rattle.text_lines.proofs.Stopping.{NoWord, word_stops, no_word, word_gap_again, flat}
use Rattle.config_text.specs.Shapes.{RangeText, LinkText, maybe_range_at}
use Rattle.config_text.specs.SpellingLinks.{SpellsTarget}
use Rattle.config_text.proofs.SpelledRanges.{RangeThen, maybe_cases, maybe_stops, maybe_none}
use Rattle.config_text.proofs.SpelledRanges.{maybe_some, maybe_bad, moved}
use Rattle.config_text.proofs.Stops.{solid_next, run_before}
use Rattle.config_text.proofs.StopsRanges.{RangeStops, range_stops}

-- what is read behind the sign
abbrev pub behind_sign : Side → ℕ → Option RangeText → List ℕ → Result LinkText ℕ
behind_sign side left source xs =
    word_at (takes kind.Name) xs >>= λ name. maybe_range_at name.1 >>= λ target. end_at target.1
    >>= λ u.
    Ok (record { side = side; left = left; source = source; name = name.0; target = target.0 })

-- a list that begins with a bracket
pub opened_begins : (good front : List ℕ) → good ≡ 40 ∷ front → (xs : List ℕ)
    → begins 40 (good ++ xs) ≡ true
opened_begins good front e xs = ap (λ (t : List ℕ). begins 40 (t ++ xs)) e

pub opened_tight : (good front : List ℕ) → good ≡ 40 ∷ front → (xs : List ℕ)
    → is_tight (good ++ xs) ≡ true
opened_tight good front e xs = ap (λ (t : List ℕ). is_tight (t ++ xs)) e

pub opened_breaks : (p : ℕ → Bool) → p 40 ≡ false → (good front : List ℕ) → good ≡ 40 ∷ front
    → (xs : List ℕ) → Breaks p (good ++ xs)
opened_breaks p o good front e xs = subst (λ (t : List ℕ). Breaks p (t ++ xs)) (sym e) o

pub flat_range : (a g c d xs : List ℕ) → (a ++ (g ++ (c ++ d))) ++ xs ≡ a ++ (g ++ (c ++ (d ++ xs)))
flat_range a g c d xs = simp append_assoc

-- another end that is good so far can be ended, and is never read over the byte behind that
pub record TargetStops (xs : List ℕ) (left : ℕ) : Type 0 where
  pub good : List ℕ
  pub bad : List ℕ
  pub parts : xs ≡ good ++ bad
  pub place : length bad ≡ left
  pub more : List ℕ
  pub name : Text
  pub target : Option RangeText
  pub ends : SpellsTarget (good ++ more) name target
  pub tight : (b : ℕ) (rest : List ℕ) → bad ≡ b ∷ rest → (u : List ℕ)
      → is_tight (good ++ b ∷ u) ≡ true
  pub stuck : (b : ℕ) (rest : List ℕ) → bad ≡ b ∷ rest
      → (u : List ℕ) (side : Side) (place : ℕ) (source : Option RangeText)
      → (n : ℕ) × (behind_sign side place source (good ++ b ∷ u) ≡ Err n)

module _ (xs : List ℕ) (left : ℕ) (tight : is_tight xs ≡ true) where
  without_name : NoWord (takes kind.Name) xs left → TargetStops xs left
  without_name n =
      record {
        good = [];
        bad = xs;
        parts = refl;
        place = n.place;
        more = 97 ∷ [];
        name = record { text = 97 ∷ []; left = 1 };
        target = None;
        ends =
            record {
              behind_name = [];
              range = [];
              behind_range = [];
              text = refl;
              word = (omega arith, refl);
              spelled = refl;
              gaps = (refl, refl);
              place = refl;
            };
        tight = λ b rest e u. solid_next xs b rest tight e;
        stuck =
            λ b rest e u side place source.
            (length (b ∷ u), rw (no_word (takes kind.Name) b u (n.other b rest e)) refl);
      }

  module _ (name : Text × List ℕ) (w : Word (takes kind.Name) xs name) where
    bad_range : (r : RangeStops name.1 left) → TargetStops xs left
    bad_range r =
        let gap = w.run.gap.gap in
        let good = name.0.text ++ (gap ++ r.good) in
        let word : IsWord (takes kind.Name) name.0.text = (w.some, w.run.run) in
        record {
          good = good;
          bad = r.bad;
          parts =
              w.run.parts
              ∙ ap (λ (t : List ℕ). name.0.text ++ t)
              (w.run.gap.parts ∙ ap (λ (t : List ℕ). gap ++ t) r.parts)
              ∙ sym (flat name.0.text gap r.good r.bad);
          place = r.place;
          more = r.more;
          name = record { text = name.0.text; left = length (good ++ r.more) };
          target = Some (record r.range { left = length ((r.good ++ r.more) ++ []) });
          ends = record {
            behind_name = gap;
            range = r.good ++ r.more;
            behind_range = [];
            text =
                flat name.0.text gap r.good r.more
                ∙ ap (λ (t : List ℕ). name.0.text ++ (gap ++ t))
                (sym (append-nil (r.good ++ r.more)));
            word = word;
            spelled =
                (moved (r.good ++ r.more) r.range (length ((r.good ++ r.more) ++ [])) r.ends, refl);
            gaps = (w.run.gap.blank, refl);
            place = refl;
          };
          tight =
              λ b rest e u. ap is_tight (flat name.0.text gap r.good (b ∷ u))
              ∙ word_tight kind.Name refl name.0.text (gap ++ (r.good ++ b ∷ u)) word;
          stuck = λ b rest e u side place source.
              let s = r.stuck b rest e u in
              let k =
              gap_breaks kind.Name refl gap (r.good ++ b ∷ u) w.run.gap.blank
              (opened_breaks (takes kind.Name) refl r.good r.front r.opens (b ∷ u)) in (
                s.0,
                rw (
                  flat name.0.text gap r.good (b ∷ u),
                  word_gap_again (takes kind.Name) name.0.text gap (r.good ++ b ∷ u) word
                      w.run.gap.blank k (opened_tight r.good r.front r.opens (b ∷ u)),
                  maybe_bad (r.good ++ b ∷ u) s.0
                      (opened_begins r.good r.front r.opens (b ∷ u)) s.1,
                )
                    refl,
              );
        }

    more_behind_name : begins 40 name.1 ≡ false → length name.1 ≡ left → TargetStops xs left
    more_behind_name o e =
        let gap = w.run.gap.gap in
        let good = name.0.text ++ gap in
        let word : IsWord (takes kind.Name) name.0.text = (w.some, w.run.run) in
        record {
          good = good;
          bad = name.1;
          parts =
              w.run.parts ∙ ap (λ (t : List ℕ). name.0.text ++ t) w.run.gap.parts
              ∙ sym (append_assoc name.0.text gap name.1);
          place = e;
          more = [];
          name = record { text = name.0.text; left = length (good ++ []) };
          target = None;
          ends = record {
            behind_name = gap;
            range = [];
            behind_range = [];
            text = append_assoc name.0.text gap [];
            word = word;
            spelled = refl;
            gaps = (w.run.gap.blank, refl);
            place = refl;
          };
          tight =
              λ b rest e u. ap is_tight (append_assoc name.0.text gap (b ∷ u))
              ∙ word_tight kind.Name refl name.0.text (gap ++ b ∷ u) word;
          stuck = λ b rest e u side place source.
              let no_range : begins 40 (b ∷ u) ≡ false = ap (begins 40) (sym e) ∙ o in (
                length (b ∷ u),
                rw (
                  append_assoc name.0.text gap (b ∷ u),
                  word_gap_again (takes kind.Name) name.0.text gap (b ∷ u) word
                      w.run.gap.blank
                      (run_before (takes kind.Name) xs name w.run b rest u e)
                      (solid_next name.1 b rest w.run.gap.tight e),
                  maybe_none (b ∷ u) no_range,
                )
                    refl,
              );
        }

    more_behind_range : (r : RangeText × List ℕ) → RangeThen name.1 r → length r.1 ≡ left
        → TargetStops xs left
    more_behind_range r t e =
        let gap = w.run.gap.gap in
        let good = name.0.text ++ (gap ++ (t.range ++ t.gap.gap)) in
        let word : IsWord (takes kind.Name) name.0.text = (w.some, w.run.run) in
        record {
          good = good;
          bad = r.1;
          parts =
              w.run.parts
              ∙ ap (λ (x : List ℕ). name.0.text ++ x)
              (w.run.gap.parts
              ∙ ap (λ (x : List ℕ). gap ++ x)
              (t.parts ∙ ap (λ (x : List ℕ). t.range ++ x) t.gap.parts))
              ∙ sym (flat_range name.0.text gap t.range t.gap.gap r.1);
          place = e;
          more = [];
          name = record { text = name.0.text; left = length (good ++ []) };
          target = Some (record r.0 { left = length (t.range ++ t.gap.gap) });
          ends = record {
            behind_name = gap;
            range = t.range;
            behind_range = t.gap.gap;
            text = append-nil good;
            word = word;
            spelled = (moved t.range r.0 (length (t.range ++ t.gap.gap)) t.spelled, refl);
            gaps = (w.run.gap.blank, t.gap.blank);
            place = refl;
          };
          tight =
              λ b rest e u. ap is_tight (flat_range name.0.text gap t.range t.gap.gap (b ∷ u))
              ∙ word_tight kind.Name refl name.0.text (gap ++ (t.range ++ (t.gap.gap ++ b ∷ u)))
              word;
          stuck = λ b rest e u side place source.
              let tail = t.gap.gap ++ b ∷ u in
              let k =
              gap_breaks kind.Name refl gap (t.range ++ tail) w.run.gap.blank
              (opened_breaks (takes kind.Name) refl t.range _ t.spelled.text tail) in
              let moved_range = moved t.range r.0 (length (t.range ++ tail)) t.spelled in (
                length (b ∷ u),
                rw (
                  flat_range name.0.text gap t.range t.gap.gap (b ∷ u),
                  word_gap_again (takes kind.Name) name.0.text gap (t.range ++ tail) word
                      w.run.gap.blank k (opened_tight t.range _ t.spelled.text tail),
                  maybe_some t.range (record r.0 { left = length (t.range ++ tail) }) tail
                      moved_range refl,
                  gap_again t.gap.gap (b ∷ u) t.gap.blank (solid_next r.1 b rest t.gap.tight e),
                ) refl,
              );
        }

-- an other end that isn't read
pub target_stops : (xs : List ℕ) (left : ℕ) (side : Side) (place : ℕ) (source : Option RangeText)
    → is_tight xs ≡ true → behind_sign side place source xs ≡ Err left → TargetStops xs left
target_stops xs left side place source tight h =
    on_err (word_at (takes kind.Name) xs) _ left h
    (λ e. without_name xs left tight (word_stops (takes kind.Name) xs left e)) (λ name n h.
    let w = word_takes (takes kind.Name) xs name n in
    on_err (maybe_range_at name.1) _ left h
    (λ e. let m = maybe_stops name.1 left e in
    bad_range xs left tight name w (range_stops name.1 left m.0 m.1))
    (λ m k h.
    on_err (end_at m.1) _ left h (λ e.
    elim (maybe_cases name.1 m k) [
      | inl c ↦
          more_behind_name xs left tight name w c.0 (ap length (sym c.1) ∙ end_stops m.1 left e)
      | inr c ↦
          more_behind_range xs left tight name w c.0 c.1
          (ap length (sym c.2) ∙ end_stops m.1 left e)
    ]) (λ u v h. absurd cc)))
