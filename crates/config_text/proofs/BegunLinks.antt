-- A link's line up to its sign.
use Rattle.std.proofs.Common.{◌≡◌, ℕ, true, false, List, [], ◌∷◌, ◌++◌, length, Result, Option}
use Rattle.std.proofs.Common.{Some, None, refl, ap, sym, ◌∙◌, append_assoc, arith}
use Rattle.share_base.specs.declared.shape.Side.{Side}
use Rattle.text_lines.specs.declared.bytes.WordKind.TheVariants as kind
use Rattle.text_lines.specs.Bytes.{takes, is_tight}
use Rattle.text_lines.specs.Reading.{◌>>=◌, Text, sign_at, begins}
use Rattle.text_lines.specs.Spelling.{IsGap, StopsAt}
use Rattle.text_lines.proofs.SpelledWords.{Word, Breaks, gap_breaks, gap_again}
use Rattle.text_lines.proofs.Stopping.{never_read, word_gap_again, flat}
use Rattle.share_base.specs.Sides.{side_text}
use Rattle.config_text.specs.Shapes.{RangeText, LinkText, maybe_range_at, link_at}
use Rattle.config_text.specs.SpellingLinks.{SpellsTarget, SpellsLink, IsLink}
use Rattle.share_base.proofs.SideWords.{side_found}
use Rattle.config_text.proofs.SpelledLinks.{side_word, link_again}
use Rattle.config_text.proofs.SpelledRanges.{RangeThen, maybe_none, maybe_some, maybe_bad, moved}
use Rattle.config_text.proofs.Stops.{run_before}
use Rattle.config_text.proofs.StopsRanges.{RangeStops}
use Rattle.config_text.proofs.StopsTargets.{behind_sign, opened_begins, opened_tight, opened_breaks}
use Rattle.config_text.proofs.StopsTargets.{flat_range}

-- ---- what is read behind the side, and behind a range

abbrev pub behind_range : Side → ℕ → Option RangeText → List ℕ → Result LinkText ℕ
behind_range side left source xs = sign_at 61 xs >>= λ rest. behind_sign side left source rest

abbrev pub behind_side : Side → ℕ → List ℕ → Result LinkText ℕ
behind_side side left xs = maybe_range_at xs >>= λ source. behind_range side left source.0 source.1

side_before : (side : Side) (gap xs : List ℕ) → IsGap gap → Breaks (takes kind.Side) (gap ++ xs)
    → is_tight xs ≡ true
    → link_at (side_text side ++ (gap ++ xs))
    ≡ behind_side side (length (side_text side ++ (gap ++ xs))) xs
unfolding link_at
side_before side gap xs g k t =
    rw (
      word_gap_again (takes kind.Side) (side_text side) gap xs (side_word side) g k t,
      side_found side,
    )
    refl

-- a name alone, as another end
pub one_name : SpellsTarget (97 ∷ []) (record { text = 97 ∷ []; left = 1 }) None
one_name =
    record {
      behind_name = [];
      range = [];
      behind_range = [];
      text = refl;
      word = (omega arith, refl);
      spelled = refl;
      gaps = (refl, refl);
      place = refl;
    }

-- ---- a line up to the sign

-- the side, a range or none, and a gap: whatever follows like what does follow, they are read, and
-- a sign and another end make a link of them
pub record Begun (side : Side) (xs rest : List ℕ) : Type 0 where
  pub begin : List ℕ
  pub parts : xs ≡ begin ++ rest
  pub tight : is_tight rest ≡ true
  pub again : (b : ℕ) (t u : List ℕ) → rest ≡ b ∷ t → is_tight (b ∷ u) ≡ true
      → (left : ℕ) × (source : Option RangeText)
      × (link_at (begin ++ b ∷ u) ≡ behind_range side left source (b ∷ u))
  pub spelled : (gap ends : List ℕ) (name : Text) (target : Option RangeText) → IsGap gap
      → SpellsTarget ends name target → IsLink (begin ++ 61 ∷ (gap ++ ends))

module _ (side : Side) (xs : List ℕ) (word : Text × List ℕ) (w : Word (takes kind.Side) xs word)
    (s : word.0.text ≡ side_text side) where
  side_parts : xs ≡ side_text side ++ (w.run.gap.gap ++ word.1)
  side_parts =
      w.run.parts ∙ ap (λ (t : List ℕ). t ++ w.run.tail) s
      ∙ ap (λ (t : List ℕ). side_text side ++ t) w.run.gap.parts

  pub begun_alone : begins 40 word.1 ≡ false → Begun side xs word.1
  begun_alone o =
      let gap = w.run.gap.gap in
      let begin = side_text side ++ gap in
      record {
        begin = begin;
        parts = side_parts ∙ sym (append_assoc (side_text side) gap word.1);
        tight = w.run.gap.tight;
        again = λ b t u e k.
            let no_range : begins 40 (b ∷ u) ≡ false = ap (begins 40) (sym e) ∙ o in
            let read =
            side_before side gap (b ∷ u) w.run.gap.blank
            (run_before (takes kind.Side) xs word w.run b t u e) k in
            let left = length (side_text side ++ (gap ++ b ∷ u)) in (
              left,
              None,
              ap link_at (append_assoc (side_text side) gap (b ∷ u)) ∙ read
                  ∙ rw (maybe_none (b ∷ u) no_range) refl,
            );
        spelled = λ next ends name target g t. (
          record {
            side = side;
            left = length (begin ++ 61 ∷ (next ++ ends));
            source = None;
            name = name;
            target = target;
          },
          record {
            behind_side = gap;
            range = [];
            behind_range = [];
            behind_sign = next;
            ends = ends;
            text = append_assoc (side_text side) gap (61 ∷ (next ++ ends));
            source = refl;
            target = t;
            gaps = (w.run.gap.blank, refl, g);
            place = refl;
          },
        );
      }

  pub begun_ranged : (r : RangeText × List ℕ) → RangeThen word.1 r → Begun side xs r.1
  begun_ranged r t =
      let gap = w.run.gap.gap in
      let begin = side_text side ++ (gap ++ (t.range ++ t.gap.gap)) in
      record {
        begin = begin;
        parts =
            side_parts
            ∙ ap (λ (x : List ℕ). side_text side ++ (gap ++ x))
            (t.parts ∙ ap (λ (x : List ℕ). t.range ++ x) t.gap.parts)
            ∙ sym (flat_range (side_text side) gap t.range t.gap.gap r.1);
        tight = t.gap.tight;
        again = λ b rest u e k.
            let tail = t.gap.gap ++ b ∷ u in
            let left = length (side_text side ++ (gap ++ (t.range ++ tail))) in
            let breaks =
            gap_breaks kind.Side refl gap (t.range ++ tail) w.run.gap.blank
            (opened_breaks (takes kind.Side) refl t.range _ t.spelled.text tail) in
            let read =
            side_before side gap (t.range ++ tail) w.run.gap.blank breaks
            (opened_tight t.range _ t.spelled.text tail) in
            let there : RangeText = record r.0 { left = length (t.range ++ tail) } in (
              left,
              Some there,
              ap link_at (flat_range (side_text side) gap t.range t.gap.gap (b ∷ u)) ∙ read
                  ∙ rw (
                    maybe_some t.range there tail
                        (moved t.range r.0 (length (t.range ++ tail)) t.spelled) refl,
                    gap_again t.gap.gap (b ∷ u) t.gap.blank k,
                  )
                  refl,
            );
        spelled = λ next ends name target g k.
            let signed = 61 ∷ (next ++ ends) in
            let place = length (t.range ++ (t.gap.gap ++ signed)) in (
              record {
                side = side;
                left = length (begin ++ signed);
                source = Some (record r.0 { left = place });
                name = name;
                target = target;
              },
              record {
                behind_side = gap;
                range = t.range;
                behind_range = t.gap.gap;
                behind_sign = next;
                ends = ends;
                text = flat_range (side_text side) gap t.range t.gap.gap signed;
                source = (moved t.range r.0 place t.spelled, refl);
                target = k;
                gaps = (w.run.gap.blank, t.gap.blank, g);
                place = refl;
              },
            );
      }

  pub stops_in_range : (left : ℕ) → RangeStops word.1 left → StopsAt IsLink xs left
  stops_in_range left r =
      let gap = w.run.gap.gap in
      let good = side_text side ++ (gap ++ r.good) in
      let range = r.good ++ r.more in
      let ends = 61 ∷ 97 ∷ [] in
      let whole : good ++ (r.more ++ ends) ≡ side_text side ++ (gap ++ (range ++ ends)) =
      flat (side_text side) gap r.good (r.more ++ ends)
      ∙ ap (λ (x : List ℕ). side_text side ++ (gap ++ x))
      (sym (append_assoc r.good r.more ends)) in
      record {
        good = good;
        bad = r.bad;
        parts =
            side_parts ∙ ap (λ (x : List ℕ). side_text side ++ (gap ++ x)) r.parts
            ∙ sym (flat (side_text side) gap r.good r.bad);
        place = r.place;
        goes_on = (
          r.more ++ ends,
          (
            record {
              side = side;
              left = length (good ++ (r.more ++ ends));
              source = Some (record r.range { left = length (range ++ ends) });
              name = record { text = 97 ∷ []; left = 1 };
              target = None;
            },
            record {
              behind_side = gap;
              range = range;
              behind_range = [];
              behind_sign = [];
              ends = 97 ∷ [];
              text = whole;
              source = (moved range r.range (length (range ++ ends)) r.ends, refl);
              target = one_name;
              gaps = (w.run.gap.blank, refl, refl);
              place = refl;
            },
          ),
        );
        no_more = λ b rest e. never_read link_at SpellsLink link_again good b
            (λ u.
            let n = r.stuck b rest e u in
            let breaks =
            gap_breaks kind.Side refl gap (r.good ++ b ∷ u) w.run.gap.blank
            (opened_breaks (takes kind.Side) refl r.good r.front r.opens (b ∷ u)) in
            let read =
            side_before side gap (r.good ++ b ∷ u) w.run.gap.blank breaks
            (opened_tight r.good r.front r.opens (b ∷ u)) in (
              n.0,
              ap link_at (flat (side_text side) gap r.good (b ∷ u)) ∙ read
                  ∙ rw
                  (maybe_bad (r.good ++ b ∷ u) n.0
                  (opened_begins r.good r.front r.opens (b ∷ u)) n.1)
                  refl,
            ));
      }
