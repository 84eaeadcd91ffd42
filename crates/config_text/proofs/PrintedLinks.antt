-- A link is printed as it is spelled, so that it is read again, and a line keeps it.
use Rattle.std.proofs.Common.{◌≡◌, ℕ, ◌+◌, ◌≤◌, Bool, true, false, cond, ◌&&◌, ◌==◌, List, [], ◌∷◌}
use Rattle.std.proofs.Common.{◌++◌, length, Result, Ok, Option, Some, None, refl, ap, sym, subst}
use Rattle.std.proofs.Common.{append_assoc, append-nil, arith}
use Rattle.std.specs.Prelude.{codes}
use Rattle.std.specs.List.{list_all, list_any}
use Rattle.std.specs.Fmt.{decimal}
use Rattle.std.proofs.Math.Bool.{or-true}
use Rattle.std.proofs.lemmas.Bool.{and_parts, eqb-true, lt-ltb, le-leb, agree_below_at}
use Rattle.std.proofs.lemmas.List.Folds.{list_any-append}
use Rattle.share_base.specs.declared.shape.Side.{Side}
use Rattle.share_base.specs.declared.shape.Side.TheVariants.{Left}
use Rattle.share_base.specs.Names.{is_name}
use Rattle.share_base.specs.Sides.{side_text}
use Rattle.share_base.proofs.ListTests.{all_append}
use Rattle.screen_links.specs.declared.range.Range.{Range}
use Rattle.screen_links.specs.Ranges.{IsGood}
use Rattle.text_lines.proofs.CleanWords.{is_plain, IsClean, clean_solid, clean_around}
use Rattle.text_lines.proofs.NumbersAgain.{all_digits}
use Rattle.text_lines.proofs.SpelledWords.{text_of}
use Rattle.config_text.specs.declared.faults.Fault.{Fault}
use Rattle.config_text.specs.Judging.{good_range, range_of}
use Rattle.config_text.specs.Normal.{range_text}
use Rattle.config_text.specs.Shapes.{RangeText, LinkText}
use Rattle.config_text.specs.SpellingLinks.{SpellsMaybe, SpellsLink}
use Rattle.config_text.proofs.NamesAgain.{name_takes}
use Rattle.config_text.proofs.NamesClean.{clean_name}

-- ---- (a,b)

-- this text spells a range, or none where it is the whole side; it may stand behind a name
pub record Printed (r : Range) (xs : List ℕ) (read : ℕ → Option RangeText) : Type 0 where
  pub spelled : (left : ℕ) → SpellsMaybe xs (read left) left
  pub judged : (left : ℕ) → good_range (read left) ≡ Ok r
  pub plain : list_all is_plain xs ≡ true
  pub clean : (name : List ℕ) → IsClean name → IsClean (name ++ xs)

decimal_plain : (n : ℕ) → n ≤ 100 → list_all is_plain (decimal n) ≡ true
decimal_plain n h =
    all_digits is_plain (λ d k. agree_below_at (λ d. is_plain (48 + d)) (λ d. true) 10 d refl k) n
    (omega arith)

printed_by : (t : Bool) (r : Range) → (r.a == 0) && (r.b == 100) ≡ t → IsGood r
    → Printed r
    (cond t [] ((((codes "(" ++ decimal r.a) ++ codes ",") ++ decimal r.b) ++ codes ")"))
    (λ left. cond t None (Some (record { a = r.a; b = r.b; left = left })))
unfolding good_range
printed_by true r e good =
    let both = and_parts (r.a == 0) (r.b == 100) e in
    let first : r.a ≡ 0 = eqb-true r.a 0 both.0 in
    let last : r.b ≡ 100 = eqb-true r.b 100 both.1 in
    let whole : range_of 0 100 ≡ range_of r.a r.b = cc in
    record {
      spelled = λ left. refl;
      judged = λ left. ap (λ (k : Range). let a : Result Range Fault = Ok k in a) whole;
      plain = refl;
      clean = λ name c. subst IsClean (sym (append-nil name)) c;
    }
printed_by false r e good =
    let inner = ((codes "(" ++ decimal r.a) ++ codes ",") ++ decimal r.b in
    let first : r.a ≤ 100 = omega (arith, good.some, good.within) in
    let plain : list_all is_plain inner ≡ true =
    all_append is_plain ((codes "(" ++ decimal r.a) ++ codes ",") (decimal r.b)
    (all_append is_plain (codes "(" ++ decimal r.a) (codes ",") (decimal_plain r.a first) refl)
    (decimal_plain r.b good.within) in
    record {
      spelled = λ left. (
        record {
          first = decimal r.a;
          second = decimal r.b;
          behind_open = [];
          behind_first = [];
          behind_comma = [];
          behind_second = [];
          text = simp append_assoc;
          numbers = ((refl, omega arith), (refl, omega (arith, good.within)));
          gaps = (refl, refl, refl, refl);
        },
        refl,
      );
      judged = λ left. rw (lt-ltb r.a r.b good.some, le-leb r.b 100 good.within) refl;
      plain = all_append is_plain inner (codes ")") plain refl;
      clean =
          λ name c.
          subst IsClean (append_assoc name inner (codes ")"))
          (clean_around name inner (codes ")") c plain
          (clean_solid (codes ")") refl refl (omega arith)));
    }

abbrev range_read : Range → ℕ → Option RangeText
range_read r left =
    cond ((r.a == 0) && (r.b == 100)) None (Some (record { a = r.a; b = r.b; left = left }))

pub printed : (r : Range) → IsGood r → Printed r (range_text r) (range_read r)
unfolding range_text
printed r good = printed_by ((r.a == 0) && (r.b == 100)) r refl good

-- ---- SIDE(a,b) = NAME(c,d)

abbrev pub link_words : Side → Range → List ℕ → Range → List ℕ
link_words side range name onto =
    (((side_text side ++ range_text range) ++ codes " = ") ++ name) ++ range_text onto

abbrev pub link_read : Side → Range → List ℕ → Range → LinkText
link_read side range name onto = record {
  side = side;
  left = length (link_words side range name onto);
  source =
      range_read range
      (length (range_text range ++ 32 ∷ 61 ∷ 32 ∷ (name ++ (range_text onto ++ []))));
  name = text_of name (length (name ++ (range_text onto ++ [])));
  target = range_read onto (length (range_text onto ++ []));
}

pub link_spelled : (side : Side) (range : Range) (name : List ℕ) (onto : Range) → IsGood range
    → is_name name ≡ true → IsGood onto
    → SpellsLink (link_words side range name onto) (link_read side range name onto)
link_spelled side range name onto good named good_onto = record {
  behind_side = [];
  range = range_text range;
  behind_range = 32 ∷ [];
  behind_sign = 32 ∷ [];
  ends = name ++ (range_text onto ++ []);
  text = simp (append_assoc, append-nil);
  source = (printed range good).spelled _;
  target = record {
    behind_name = [];
    range = range_text onto;
    behind_range = [];
    text = refl;
    word = ((clean_name name named).some, name_takes name named);
    spelled = (printed onto good_onto).spelled _;
    gaps = (refl, refl);
    place = refl;
  };
  gaps = (refl, refl, refl);
  place = refl;
}

-- ---- it has a sign, and a line keeps it

pub link_equals : (side : Side) (range : Range) (name : List ℕ) (onto : Range)
    → list_any (λ b. b == 61) (link_words side range name onto) ≡ true
link_equals side range name onto = simp (list_any-append, or-true)

clean_side : (side : Side) → IsClean (side_text side)
clean_side Left = clean_solid (codes "left") refl refl (omega arith)
clean_side side = clean_solid (side_text side) refl refl (omega arith)

pub link_clean : (side : Side) (range : Range) (name : List ℕ) (onto : Range) → IsGood range
    → is_name name ≡ true → IsGood onto → IsClean (link_words side range name onto)
link_clean side range name onto good named good_onto =
    let between =
    all_append is_plain (range_text range) (codes " = ") (printed range good).plain refl in
    subst IsClean (simp append_assoc)
    (clean_around (side_text side) (range_text range ++ codes " = ") (name ++ range_text onto)
    (clean_side side) between ((printed onto good_onto).clean name (clean_name name named)))
