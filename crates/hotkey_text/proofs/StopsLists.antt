-- Where lists of actions can't go on.
use Rattle.std.proofs.Common.{◌≡◌, ℕ, zero, suc, ◌≤◌, Bool, true, false, List, [], ◌∷◌, ◌++◌}
use Rattle.std.proofs.Common.{length, Option, Some, None, Result, Ok, Err, refl, ap, sym, subst}
use Rattle.std.proofs.Common.{◌∙◌, append-nil, arith}
use Rattle.text_lines.specs.Bytes.{is_tight}
use Rattle.text_lines.specs.Reading.{◌>>=◌, maybe_sign_at, end_at, begins, is_empty}
use Rattle.text_lines.specs.Spelling.{IsGap}
use Rattle.text_lines.proofs.SpelledWords.{on_err, Sign, end_stops}
use Rattle.text_lines.proofs.MaybeSigns.{maybe_sign_takes, maybe_sign_again}
use Rattle.hotkey_text.specs.Shapes.{ActionForm, action_at, with_first, and_more, actions_at}
use Rattle.hotkey_text.specs.Shapes.{list_at}
use Rattle.hotkey_text.specs.Spelling.{SpellsAction, SpellsList}
use Rattle.hotkey_text.proofs.ActionLists.{first_and_more, no_action, one_action}
use Rattle.hotkey_text.proofs.ActionLists.{maybe_sign_shorter}
use Rattle.hotkey_text.proofs.SpelledBrackets.{action_takes, action_again, action_shorter}
use Rattle.hotkey_text.proofs.SpelledLists.{Actions, actions_take, actions_again, list_there}
use Rattle.hotkey_text.proofs.Fronts.{next_first, action_front, actions_front, SpellsActions}
use Rattle.hotkey_text.proofs.Fronts.{one_more, flat_sign}
use Rattle.hotkey_text.proofs.StopsActions.{Halts, action_halts}

-- ---- actions, with any rest behind them

first_halts : (xs : List ℕ) (left : ℕ) → Halts SpellsAction action_at xs left
    → Halts SpellsActions actions_at xs left
first_halts xs left h =
    record {
      good = h.good;
      bad = h.bad;
      parts = h.parts;
      place = h.place;
      more = h.more;
      opens = h.opens;
      ends = λ tail. let x = h.ends tail in ((x.0, []), (tail, x.1, refl));
      stuck =
          λ b rest e u. let s = h.stuck b rest e u in (s.0, no_action (h.good ++ b ∷ u) s.0 s.1);
    }

next_stuck : (xs gap ys : List ℕ) (a : ActionForm) (n : ℕ) → SpellsAction xs a (44 ∷ (gap ++ ys))
    → IsGap gap → is_tight ys ≡ true → actions_at ys ≡ Err n → actions_at xs ≡ Err n
next_stuck xs gap ys a n s g t h =
    one_action xs (a, 44 ∷ (gap ++ ys)) (Some ys) (action_again xs a (44 ∷ (gap ++ ys)) s refl)
    (sym (maybe_sign_again 44 gap ys g t))
    ∙ ap (with_first a) h

-- the list behind a comma can't go on
next_halts : (xs : List ℕ) (a : ActionForm) (behind rest : List ℕ) (left : ℕ)
    → SpellsAction xs a behind → Sign 44 behind rest → Halts SpellsActions actions_at rest left
    → Halts SpellsActions actions_at xs left
next_halts xs a behind rest left s c h =
    let f = action_front xs a behind s in
    let gap = c.gap.gap in
    record {
      good = f.front ++ 44 ∷ (gap ++ h.good);
      bad = h.bad;
      parts =
          f.parts
          ∙ ap (λ (t : List ℕ). f.front ++ t)
          (c.parts
          ∙ ap (λ (t : List ℕ). 44 ∷ t)
          (c.gap.parts ∙ ap (λ (t : List ℕ). gap ++ t) h.parts))
          ∙ sym (flat_sign f.front 44 gap h.good h.bad);
      place = h.place;
      more = h.more;
      opens = h.opens;
      ends = λ tail.
          let ys = h.good ++ (h.more ++ tail) in
          let y = h.ends tail in
          let x = f.on (44 ∷ (gap ++ ys)) in (
            (x.0, y.0.0 ∷ y.0.1),
            subst (λ (t : List ℕ). SpellsActions t (x.0, y.0.0 ∷ y.0.1) tail)
                (sym (flat_sign f.front 44 gap h.good (h.more ++ tail)))
                (one_more f.front gap ys tail x.0 y.0 x.1 c.gap.blank y.1),
          );
      stuck = λ b others e u.
          let ys = h.good ++ b ∷ u in
          let stop = h.stuck b others e u in
          let x = f.on (44 ∷ (gap ++ ys)) in
          let there = h.parts ∙ ap (λ (t : List ℕ). h.good ++ t) e in
          let tight =
          next_first is_tight (λ x y z. refl) h.good b others u ∙ ap is_tight (sym there)
          ∙ c.gap.tight in (
            stop.0,
            ap actions_at (flat_sign f.front 44 gap h.good (b ∷ u))
                ∙ next_stuck (f.front ++ 44 ∷ (gap ++ ys)) gap ys x.0 stop.0 x.1 c.gap.blank tight
                stop.1,
          );
    }

by_comma : (xs : List ℕ) (a : ActionForm × List ℕ) (o : Option (List ℕ)) (left : ℕ)
    → SpellsAction xs a.0 a.1 → maybe_sign_at 44 a.1 ≡ o
    → ((rest : List ℕ) → o ≡ Some rest → actions_at rest ≡ Err left
    → Halts SpellsActions actions_at rest left)
    → and_more actions_at a o ≡ Err left → Halts SpellsActions actions_at xs left
by_comma xs a None left s e again h = absurd cc
by_comma xs a (Some rest) left s e again h =
    on_err (actions_at rest) _ left h
    (λ k.
    next_halts xs a.0 a.1 rest left s (maybe_sign_takes 44 a.1 rest e) (again rest refl k))
    (λ more m h. absurd cc)

halts_within : (n : ℕ) (xs : List ℕ) (left : ℕ) → length xs ≤ n → actions_at xs ≡ Err left
    → Halts SpellsActions actions_at xs left
halts_within zero xs left l h =
    on_err (action_at xs) _ left (sym (first_and_more xs) ∙ h)
    (λ e. first_halts xs left (action_halts xs left e))
    (λ a e h. absurd (omega (arith, action_shorter xs a e)))
halts_within (suc n) xs left l h =
    on_err (action_at xs) _ left (sym (first_and_more xs) ∙ h)
    (λ e. first_halts xs left (action_halts xs left e))
    (λ a e h. by_comma xs a (maybe_sign_at 44 a.1) left (action_takes xs a e).spelled refl
    (λ rest s k.
    halts_within n rest left
    (omega (arith, action_shorter xs a e, maybe_sign_shorter 44 a.1 rest s)) k)
    h)

actions_halt : (xs : List ℕ) (left : ℕ) → actions_at xs ≡ Err left
    → Halts SpellsActions actions_at xs left
actions_halt xs left h = halts_within (length xs) xs left (omega arith) h

pub list_halts : (xs : List ℕ) (left : ℕ) → list_at xs ≡ Err left
    → Halts SpellsActions actions_at xs left
unfolding list_at
list_halts [] left h = absurd cc
list_halts (b ∷ bs) left h = actions_halt (b ∷ bs) left h

some_there : (good : List ℕ) (b : ℕ) (u : List ℕ) → is_empty (good ++ b ∷ u) ≡ false
some_there [] b u = refl
some_there (x ∷ xs) b u = refl

pub list_stuck : (good : List ℕ) (b : ℕ) (u : List ℕ) (n : ℕ) → actions_at (good ++ b ∷ u) ≡ Err n
    → list_at (good ++ b ∷ u) ≡ Err n
list_stuck good b u n h = list_there (good ++ b ∷ u) (some_there good b u) ∙ h

-- ---- a list up to the end

-- what is good so far can be ended, and is never read over the byte that stands there
pub record Blocked {X : Type 0} (Form : List ℕ → Type 0) (reads : List ℕ → Result X ℕ) (xs : List ℕ)
    (left : ℕ) : Type 0 where
  pub good : List ℕ
  pub bad : List ℕ
  pub parts : xs ≡ good ++ bad
  pub place : length bad ≡ left
  pub more : List ℕ
  pub ends : Form (good ++ more)
  pub stuck : (b : ℕ) (rest : List ℕ) → bad ≡ b ∷ rest → (u : List ℕ)
      → (n : ℕ) × (reads (good ++ b ∷ u) ≡ Err n)

abbrev pub IsList : List ℕ → Type 0
IsList xs = (actions : List ActionForm) × SpellsList xs actions []

-- a list, and nothing behind it
abbrev pub last_list : List ℕ → Result (Bool × List ActionForm) ℕ
last_list xs = list_at xs >>= λ list. end_at list.1 >>= λ u. Ok (true, list.0)

in_list : (xs : List ℕ) (left : ℕ) → Halts SpellsActions actions_at xs left
    → Blocked IsList last_list xs left
in_list xs left h =
    let x = h.ends [] in
    record {
      good = h.good;
      bad = h.bad;
      parts = h.parts;
      place = h.place;
      more = h.more;
      ends = (
        x.0.0 ∷ x.0.1,
        subst (λ (t : List ℕ). SpellsActions (h.good ++ t) x.0 []) (append-nil h.more) x.1,
      );
      stuck =
          λ b rest e u. let s = h.stuck b rest e u in
          (s.0, rw (list_stuck h.good b u s.0 s.1) refl);
    }

-- what stands behind a list, where something does
pub list_read : (xs : List ℕ) (list : List ActionForm × List ℕ) → list_at xs ≡ Ok list
    → is_empty list.1 ≡ false → Actions xs list.0 list.1
unfolding list_at
list_read [] list h e =
    let made : List ActionForm × List ℕ = ([], []) in
    let same : made ≡ list = cc in
    let none : is_empty [] ≡ false = ap (λ (p : List ActionForm × List ℕ). is_empty p.1) same ∙ e in
    absurd cc
list_read (b ∷ bs) list h e = actions_take (b ∷ bs) list h

behind_list : (xs : List ℕ) (list : List ActionForm × List ℕ) (left : ℕ) → Actions xs list.0 list.1
    → length list.1 ≡ left → Blocked IsList last_list xs left
behind_list xs list left a e =
    let f = actions_front xs a.first a.others list.1 a.spelled in
    record {
      good = f.front;
      bad = list.1;
      parts = f.parts;
      place = e;
      more = [];
      ends = let x = f.on [] in (x.0.0 ∷ x.0.1, x.1);
      stuck = λ b rest k u.
          let x = f.on (b ∷ u) in
          let read : list_at (f.front ++ b ∷ u) ≡ Ok (x.0.0 ∷ x.0.1, b ∷ u) =
          list_there (f.front ++ b ∷ u) (some_there f.front b u)
          ∙ actions_again (f.front ++ b ∷ u) x.0.0 x.0.1 (b ∷ u) x.1 (ap is_tight (sym k) ∙ a.tight)
          (ap (begins 44) (sym k) ∙ a.ends) in
          (length (b ∷ u), rw read refl);
    }

not_ended : (xs : List ℕ) (left : ℕ) → end_at xs ≡ Err left → is_empty xs ≡ false
not_ended [] left h = absurd cc
not_ended (b ∷ bs) left h = refl

pub last_blocked : (xs : List ℕ) (left : ℕ) → last_list xs ≡ Err left
    → Blocked IsList last_list xs left
last_blocked xs left h =
    on_err (list_at xs) _ left h (λ e. in_list xs left (list_halts xs left e)) (λ list l h.
    on_err (end_at list.1) _ left h
    (λ e.
    behind_list xs list left (list_read xs list l (not_ended list.1 left e))
    (end_stops list.1 left e))
    (λ u v h. absurd cc))
