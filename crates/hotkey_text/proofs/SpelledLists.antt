-- Lists of actions are read exactly where they are spelled.
use Rattle.std.proofs.Common.{◌≡◌, ℕ, zero, suc, true, false, List, [], ◌∷◌, length, Option, Some}
use Rattle.std.proofs.Common.{None, Ok, refl, ap, sym, subst, ◌∙◌}
use Rattle.text_lines.specs.Bytes.{is_tight}
use Rattle.text_lines.specs.Reading.{maybe_sign_at, begins, is_empty}
use Rattle.text_lines.proofs.SpelledWords.{on_ok, Sign}
use Rattle.text_lines.proofs.MaybeSigns.{maybe_sign_takes, maybe_sign_again, other_there}
use Rattle.text_lines.proofs.MaybeSigns.{no_maybe_sign}
use Rattle.hotkey_text.specs.Shapes.{ActionForm, action_at, with_first, and_more, actions_within}
use Rattle.hotkey_text.specs.Shapes.{actions_at, list_at}
use Rattle.hotkey_text.specs.Spelling.{SpellsFurther, SpellsList}
use Rattle.hotkey_text.proofs.ActionLists.{one_action}
use Rattle.hotkey_text.proofs.SpelledBrackets.{Action, action_takes, action_again, action_tight}
use Rattle.hotkey_text.proofs.SpelledBrackets.{action_there}

-- ---- a list that has an action

-- it is spelled, and what follows begins with no blank and no comma
pub record Actions (xs : List ℕ) (actions : List ActionForm) (rest : List ℕ) : Type 0 where
  pub first : ActionForm
  pub others : List ActionForm
  pub are : actions ≡ first ∷ others
  pub spelled : SpellsList xs (first ∷ others) rest
  pub tight : is_tight rest ≡ true
  pub ends : begins 44 rest ≡ false

with_more : (xs behind rest : List ℕ) (y : List ActionForm × List ℕ) (a : ActionForm)
    → Action xs a behind → Sign 44 behind rest → Actions rest y.0 y.1 → Actions xs (a ∷ y.0) y.1
with_more xs behind rest y a s c more =
    record {
      first = a;
      others = more.first ∷ more.others;
      are = ap (λ (t : List ActionForm). a ∷ t) more.are;
      spelled = (
        behind,
        s.spelled,
        record {
          behind_comma = c.gap.gap;
          here = rest;
          rest = more.spelled.0;
          text = c.parts ∙ ap (λ (t : List ℕ). 44 ∷ t) c.gap.parts;
          gap = c.gap.blank;
          action = more.spelled.1;
          others = more.spelled.2;
        },
      );
      tight = more.tight;
      ends = more.ends;
    }

behind_action : (n : ℕ) (xs : List ℕ) (a : ActionForm × List ℕ) (o : Option (List ℕ))
    (y : List ActionForm × List ℕ)
    → ((zs : List ℕ) (z : List ActionForm × List ℕ) → actions_within n zs ≡ Ok z
    → Actions zs z.0 z.1)
    → Action xs a.0 a.1 → maybe_sign_at 44 a.1 ≡ o → and_more (actions_within n) a o ≡ Ok y
    → Actions xs y.0 y.1
behind_action n xs a None y again s e h =
    let made : List ActionForm × List ℕ = (a.0 ∷ [], a.1) in
    let same : made ≡ y = cc in
    subst (λ (p : List ActionForm × List ℕ). Actions xs p.0 p.1) same
    (record {
      first = a.0;
      others = [];
      are = refl;
      spelled = (a.1, s.spelled, refl);
      tight = s.tight;
      ends = other_there 44 a.1 e;
    })
behind_action n xs a (Some rest) y again s e h =
    on_ok (actions_within n rest) _ y h (λ more m h.
    let made : List ActionForm × List ℕ = (a.0 ∷ more.0, more.1) in
    let same : made ≡ y = cc in
    subst (λ (p : List ActionForm × List ℕ). Actions xs p.0 p.1) same
    (with_more xs a.1 rest more a.0 s (maybe_sign_takes 44 a.1 rest e) (again rest more m)))

within_takes : (n : ℕ) (xs : List ℕ) (y : List ActionForm × List ℕ) → actions_within n xs ≡ Ok y
    → Actions xs y.0 y.1
unfolding actions_within
within_takes zero xs y h = absurd cc
within_takes (suc n) xs y h =
    on_ok (action_at xs) _ y h
    (λ a e h.
    behind_action n xs a (maybe_sign_at 44 a.1) y (within_takes n) (action_takes xs a e)
    refl h)

pub actions_take : (xs : List ℕ) (y : List ActionForm × List ℕ) → actions_at xs ≡ Ok y
    → Actions xs y.0 y.1
actions_take xs y h = within_takes (length xs) xs y h

-- what follows an action of a list begins with no blank
behind_tight : (behind : List ℕ) (others : List ActionForm) (rest : List ℕ)
    → SpellsFurther behind others rest → is_tight rest ≡ true → is_tight behind ≡ true
behind_tight behind [] rest s t = ap is_tight s ∙ t
behind_tight behind (b ∷ others) rest s t = ap is_tight s.text

pub actions_again : (xs : List ℕ) (a : ActionForm) (others : List ActionForm) (rest : List ℕ)
    → SpellsList xs (a ∷ others) rest → is_tight rest ≡ true → begins 44 rest ≡ false
    → actions_at xs ≡ Ok (a ∷ others, rest)
actions_again xs a [] rest s t ends =
    let none = no_maybe_sign 44 s.0 (ap (begins 44) s.2 ∙ ends) in
    one_action xs (a, s.0) None (action_again xs a s.0 s.1 (behind_tight s.0 [] rest s.2 t))
    (sym none)
    ∙ ap (λ (u : List ℕ). Ok (a ∷ [], u)) s.2
actions_again xs a (b ∷ others) rest s t ends =
    let n = s.2 in
    let some : maybe_sign_at 44 s.0 ≡ Some n.here =
    ap (maybe_sign_at 44) n.text
    ∙ maybe_sign_again 44 n.behind_comma n.here n.gap
    (action_tight n.here b n.rest n.action) in
    one_action xs (a, s.0) (Some n.here)
    (action_again xs a s.0 s.1 (behind_tight s.0 (b ∷ others) rest s.2 t)) (sym some)
    ∙ ap (with_first a) (actions_again n.here b others rest (n.rest, n.action, n.others) t ends)

-- ---- a list, maybe without an action

pub list_there : (xs : List ℕ) → is_empty xs ≡ false → list_at xs ≡ actions_at xs
unfolding list_at
list_there [] h = absurd cc
list_there (b ∷ bs) h = refl

actions_spelled : (xs : List ℕ) (actions : List ActionForm) (rest : List ℕ)
    → Actions xs actions rest → SpellsList xs actions rest
actions_spelled xs actions rest a =
    subst (λ (t : List ActionForm). SpellsList xs t rest) (sym a.are) a.spelled

pub list_takes : (xs : List ℕ) (y : List ActionForm × List ℕ) → list_at xs ≡ Ok y
    → SpellsList xs y.0 y.1
unfolding list_at
list_takes [] y h =
    let made : List ActionForm × List ℕ = ([], []) in
    let same : made ≡ y = cc in
    subst (λ (p : List ActionForm × List ℕ). SpellsList [] p.0 p.1) same refl
list_takes (b ∷ bs) y h = actions_spelled (b ∷ bs) y.0 y.1 (actions_take (b ∷ bs) y h)

pub list_tight : (xs : List ℕ) (actions : List ActionForm) (rest : List ℕ)
    → SpellsList xs actions rest → is_tight rest ≡ true → is_tight xs ≡ true
list_tight xs [] rest s t = ap is_tight s ∙ t
list_tight xs (a ∷ others) rest s t = action_tight xs a s.0 s.1

-- a list up to the end
pub list_again : (xs : List ℕ) (actions : List ActionForm) → SpellsList xs actions []
    → list_at xs ≡ Ok (actions, [])
unfolding list_at
list_again xs [] s = ap list_at s
list_again xs (a ∷ others) s =
    list_there xs (action_there xs a s.0 s.1) ∙ actions_again xs a others [] s refl refl
