-- Where the press list or the release list of a line can't go on.
use Rattle.std.proofs.Common.{◌≡◌, ℕ, Bool, true, false, cond, ◌==◌, List, [], ◌∷◌, ◌++◌, length}
use Rattle.std.proofs.Common.{Result, Ok, Err, refl, ap, sym, subst, ◌∙◌, ◌⊎◌, inl, inr, append-nil}
use Rattle.std.proofs.lemmas.Bool.{both_ways}
use Rattle.text_lines.specs.Bytes.{is_tight}
use Rattle.text_lines.specs.Reading.{◌>>=◌, sign_at, begins, is_empty}
use Rattle.text_lines.specs.Spelling.{IsGap}
use Rattle.text_lines.proofs.SpelledWords.{on_err, Sign, NoSign, sign_takes, sign_again, sign_stops}
use Rattle.text_lines.proofs.SpelledWords.{no_sign}
use Rattle.hotkey_text.specs.Shapes.{ActionForm, actions_at, list_at, press_at, release_at}
use Rattle.hotkey_text.specs.Spelling.{SpellsRelease}
use Rattle.hotkey_text.proofs.SpelledLists.{Actions}
use Rattle.hotkey_text.proofs.SpelledHotkeys.{Press, press_actions, press_signed}
use Rattle.hotkey_text.proofs.Fronts.{next_first, first_on, actions_front, SpellsActions, flat_sign}
use Rattle.hotkey_text.proofs.StopsActions.{Halts}
use Rattle.hotkey_text.proofs.StopsLists.{list_halts, list_stuck, list_read, Blocked, IsList}
use Rattle.hotkey_text.proofs.StopsLists.{last_list, last_blocked}

-- both lists of a line
pub record IsLists (xs : List ℕ) : Type 0 where
  pub press : List ActionForm
  pub second : List ℕ
  pub released : Bool
  pub release : List ActionForm
  pub first : Press xs press second
  pub behind : SpellsRelease second released release

abbrev pub both_lists : List ℕ → Result ((List ActionForm × List ℕ) × (Bool × List ActionForm)) ℕ
both_lists xs = press_at xs >>= λ press. release_at press.1 >>= λ release. Ok (press, release)

-- ---- the press list

signed_or_not : (t : Bool) (xs : List ℕ) (left : ℕ) → begins 59 xs ≡ t
    → cond t (Ok ([], xs)) (list_at xs) ≡ Err left
    → (begins 59 xs ≡ false) × (list_at xs ≡ Err left)
signed_or_not true xs left e h = absurd cc
signed_or_not false xs left e h = (e, h)

press_stops : (xs : List ℕ) (left : ℕ) → press_at xs ≡ Err left
    → (begins 59 xs ≡ false) × (list_at xs ≡ Err left)
unfolding press_at
press_stops xs left h = signed_or_not (begins 59 xs) xs left refl h

press_stuck : (good : List ℕ) (b : ℕ) (u : List ℕ) (n : ℕ) → begins 59 (good ++ b ∷ u) ≡ false
    → actions_at (good ++ b ∷ u) ≡ Err n → press_at (good ++ b ∷ u) ≡ Err n
unfolding press_at
press_stuck good b u n e h = rw e (list_stuck good b u n h)

in_press : (xs : List ℕ) (left : ℕ) → begins 59 xs ≡ false → Halts SpellsActions actions_at xs left
    → Blocked IsLists both_lists xs left
in_press xs left other h =
    let x = h.ends [] in
    let tail = h.more ++ [] in
    let no_sign_there =
    first_on (begins 59) (λ b u v. refl) h.good h.bad tail false
    (ap (begins 59) (sym h.parts) ∙ other) (h.opens []) in
    let whole : IsLists (h.good ++ tail) =
    record {
      press = x.0.0 ∷ x.0.1;
      second = [];
      released = false;
      release = [];
      first = record { spelled = x.1; first = inr no_sign_there };
      behind = (refl, refl);
    }
    in
    record {
      good = h.good;
      bad = h.bad;
      parts = h.parts;
      place = h.place;
      more = h.more;
      ends = subst (λ (t : List ℕ). IsLists (h.good ++ t)) (append-nil h.more) whole;
      stuck = λ b rest e u.
          let s = h.stuck b rest e u in
          let there = h.parts ∙ ap (λ (t : List ℕ). h.good ++ t) e in
          let same =
          next_first (begins 59) (λ b u v. refl) h.good b rest u ∙ ap (begins 59) (sym there)
          ∙ other in
          (s.0, rw (press_stuck h.good b u s.0 same s.1) refl);
    }

-- ---- what stands in front of the rest

-- a ; right there, or actions
read_by : (t : Bool) (xs : List ℕ) (y : List ActionForm × List ℕ) → begins 59 xs ≡ t
    → cond t (Ok ([], xs)) (list_at xs) ≡ Ok y → is_empty y.1 ≡ false
    → ((begins 59 xs ≡ true) × (xs ≡ y.1)) ⊎ ((begins 59 xs ≡ false) × Actions xs y.0 y.1)
read_by true xs y e h some =
    let made : List ActionForm × List ℕ = ([], xs) in
    let same : made ≡ y = cc in
    inl (e, ap (λ (p : List ActionForm × List ℕ). p.1) same)
read_by false xs y e h some = inr (e, list_read xs y h some)

press_read : (xs : List ℕ) (y : List ActionForm × List ℕ) → press_at xs ≡ Ok y
    → is_empty y.1 ≡ false
    → ((begins 59 xs ≡ true) × (xs ≡ y.1)) ⊎ ((begins 59 xs ≡ false) × Actions xs y.0 y.1)
unfolding press_at
press_read xs y h some = read_by (begins 59 xs) xs y refl h some

-- a press list, before any text that begins with a ;
record BeforeSign (xs second : List ℕ) : Type 0 where
  front : List ℕ
  parts : xs ≡ front ++ second
  on : (tail : List ℕ) → (press : List ActionForm) × Press (front ++ 59 ∷ tail) press (59 ∷ tail)

before_sign : (xs : List ℕ) (y : List ActionForm × List ℕ) (tail : List ℕ) → press_at xs ≡ Ok y
    → y.1 ≡ 59 ∷ tail → BeforeSign xs y.1
before_sign xs y tail h e =
    elim (press_read xs y h (ap is_empty e)) [
      | inl c ↦
          record {
            front = [];
            parts = c.1;
            on = λ t. ([], record { spelled = refl; first = inl refl });
          }
      | inr c ↦
          let f = actions_front xs c.1.first c.1.others y.1 c.1.spelled in
          let there = f.parts ∙ ap (λ (t : List ℕ). f.front ++ t) e in
          record {
            front = f.front;
            parts = f.parts;
            on = λ t. let x = f.on (59 ∷ t) in (
              x.0.0 ∷ x.0.1,
              record {
                spelled = x.1;
                first =
                    inr
                    (next_first (begins 59) (λ b u v. refl) f.front 59 tail t
                    ∙ ap (begins 59) (sym there) ∙ c.0);
              },
            );
          }
    ]

-- ---- behind the press list

signed_release : (gap ys : List ℕ) (n : ℕ) → IsGap gap → is_tight ys ≡ true → last_list ys ≡ Err n
    → release_at (59 ∷ (gap ++ ys)) ≡ Err n
unfolding release_at
signed_release gap ys n g t h = rw (sign_again 59 gap ys g t) h

in_release : (xs : List ℕ) (y : List ActionForm × List ℕ) (rest : List ℕ) (left : ℕ)
    → press_at xs ≡ Ok y → Sign 59 y.1 rest → Blocked IsList last_list rest left
    → Blocked IsLists both_lists xs left
in_release xs y rest left p s h =
    let f = before_sign xs y s.tail p s.parts in
    let gap = s.gap.gap in
    let ends = f.on (gap ++ (h.good ++ h.more)) in
    let whole : IsLists (f.front ++ 59 ∷ (gap ++ (h.good ++ h.more))) = record {
      press = ends.0;
      second = 59 ∷ (gap ++ (h.good ++ h.more));
      released = true;
      release = h.ends.0;
      first = ends.1;
      behind = (gap, h.good ++ h.more, refl, s.gap.blank, h.ends.1);
    } in
    record {
      good = f.front ++ 59 ∷ (gap ++ h.good);
      bad = h.bad;
      parts =
          f.parts
          ∙ ap (λ (t : List ℕ). f.front ++ t)
          (s.parts
          ∙ ap (λ (t : List ℕ). 59 ∷ t)
          (s.gap.parts ∙ ap (λ (t : List ℕ). gap ++ t) h.parts))
          ∙ sym (flat_sign f.front 59 gap h.good h.bad);
      place = h.place;
      more = h.more;
      ends = subst IsLists (sym (flat_sign f.front 59 gap h.good h.more)) whole;
      stuck = λ b others e u.
          let ys = h.good ++ b ∷ u in
          let stop = h.stuck b others e u in
          let x = f.on (gap ++ ys) in
          let there = h.parts ∙ ap (λ (t : List ℕ). h.good ++ t) e in
          let tight =
          next_first is_tight (λ x y z. refl) h.good b others u ∙ ap is_tight (sym there)
          ∙ s.gap.tight in
          let press = press_signed (f.front ++ 59 ∷ (gap ++ ys)) x.0 (gap ++ ys) x.1 in (
            stop.0,
            ap both_lists (flat_sign f.front 59 gap h.good (b ∷ u))
                ∙ rw (press, signed_release gap ys stop.0 s.gap.blank tight stop.1) refl,
          );
    }

other_release : (b : ℕ) (u : List ℕ) → (b == 59) ≡ false → release_at (b ∷ u) ≡ Err (length (b ∷ u))
unfolding release_at
other_release b u h = rw (no_sign 59 b u h) refl

-- no ; stands behind the press list
behind_press : (xs : List ℕ) (y : List ActionForm × List ℕ) (left : ℕ) → press_at xs ≡ Ok y
    → is_empty y.1 ≡ false → NoSign 59 y.1 left → Blocked IsLists both_lists xs left
behind_press xs y left p some n =
    elim (press_read xs y p some) [
      | inl c ↦
          absurd (both_ways (begins 59 y.1) (not_begun y.1 left n) (ap (begins 59) (sym c.1) ∙ c.0))
      | inr c ↦
          let f = actions_front xs c.1.first c.1.others y.1 c.1.spelled in
          let end = f.on [] in
          let no_sign_there =
          first_on (begins 59) (λ b u v. refl) f.front y.1 [] false
          (ap (begins 59) (sym f.parts) ∙ c.0) refl in
          record {
            good = f.front;
            bad = y.1;
            parts = f.parts;
            place = n.place;
            more = [];
            ends =
                record {
                  press = end.0.0 ∷ end.0.1;
                  second = [];
                  released = false;
                  release = [];
                  first = record { spelled = end.1; first = inr no_sign_there };
                  behind = (refl, refl);
                };
            stuck = λ b rest e u.
                let x = f.on (b ∷ u) in
                let there = f.parts ∙ ap (λ (t : List ℕ). f.front ++ t) e in
                let other =
                next_first (begins 59) (λ b u v. refl) f.front b rest u
                ∙ ap (begins 59) (sym there) ∙ c.0 in
                let press =
                press_actions (f.front ++ b ∷ u) x.0.0 x.0.1 (b ∷ u) x.1 other
                (record {
                  tight = ap is_tight (sym e) ∙ c.1.tight;
                  no_comma = ap (begins 44) (sym e) ∙ c.1.ends;
                })
                in
                (length (b ∷ u), rw (press, other_release b u (n.other b rest e)) refl);
          }
    ]
  where
    not_begun : (zs : List ℕ) (place : ℕ) → NoSign 59 zs place → begins 59 zs ≡ false
    not_begun [] place m = refl
    not_begun (b ∷ bs) place m = m.other b bs refl

release_stops : (second : List ℕ) (left : ℕ) → release_at second ≡ Err left
    → (is_empty second ≡ false)
    × (NoSign 59 second left
    ⊎ ((rest : List ℕ) × Sign 59 second rest × Blocked IsList last_list rest left))
unfolding release_at
release_stops [] left h = absurd cc
release_stops (b ∷ bs) left h = (
  refl,
  on_err (sign_at 59 (b ∷ bs)) last_list left h (λ e. inl (sign_stops 59 (b ∷ bs) left e))
      (λ rest s h. inr (rest, sign_takes 59 (b ∷ bs) rest s, last_blocked rest left h)),
)

pub both_blocked : (xs : List ℕ) (left : ℕ) → both_lists xs ≡ Err left
    → Blocked IsLists both_lists xs left
both_blocked xs left h =
    on_err (press_at xs) _ left h
    (λ e. let p = press_stops xs left e in in_press xs left p.0 (list_halts xs left p.1))
    (λ y p h.
    on_err (release_at y.1) _ left h
    (λ e.
    let r = release_stops y.1 left e in
    elim r.1
    [ inl n ↦ behind_press xs y left p r.0 n | inr s ↦ in_release xs y s.0 left p s.1 s.2 ])
    (λ release q h. absurd cc))
