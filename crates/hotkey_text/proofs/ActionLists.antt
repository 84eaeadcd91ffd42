-- Lists of actions: what reading one leaves, and the first of its actions.
use Rattle.std.proofs.Common.{◌≡◌, ℕ, zero, suc, ◌<◌, ◌≤◌, true, List, [], ◌∷◌, length, Option}
use Rattle.std.proofs.Common.{Some, None, Ok, Err, refl, ap, sym, ◌∙◌, length-append, arith}
use Rattle.std.specs.Prelude.{is_ok, is_some}
use Rattle.std.specs.Borrow.{Bor}
use Rattle.std.specs.Option.{option_copied}
use Rattle.text_lines.specs.Reading.{Read, ◌>>=◌, word_at, maybe_sign_at}
use Rattle.text_lines.proofs.MaybeSigns.{maybe_sign_takes}
use Rattle.hotkey_text.specs.Shapes.{ActionForm, action_at, with_first, and_more, actions_within}
use Rattle.hotkey_text.specs.Shapes.{actions_at, has_some}
use Rattle.hotkey_text.specs.Lists.{is_formed, read_actions, actions_from, behind_of}
use Rattle.hotkey_text.proofs.SpelledBrackets.{action_shorter}

-- what stands behind a sign is shorter
pub maybe_sign_shorter : (c : ℕ) (xs rest : List ℕ) → maybe_sign_at c xs ≡ Some rest
    → length rest < length xs
maybe_sign_shorter c xs rest e =
    let s = maybe_sign_takes c xs rest e in
    omega (arith, ap length s.parts, ap length s.gap.parts, length-append s.gap.gap rest)

-- ---- the bound on actions

-- lists are read alike where shorter ones are
same_behind : (f g : List ℕ → Read (List ActionForm)) (xs : List ℕ) (r : Read ActionForm)
    → action_at xs ≡ r → ((rest : List ℕ) → length rest < length xs → f rest ≡ g rest)
    → (r >>= λ a. and_more f a (maybe_sign_at 44 a.1))
    ≡ (r >>= λ a. and_more g a (maybe_sign_at 44 a.1))
same_behind f g xs (Err left) e same = refl
same_behind f g xs (Ok a) e same = by_comma (maybe_sign_at 44 a.1) refl where
  by_comma : (o : Option (List ℕ)) → maybe_sign_at 44 a.1 ≡ o → and_more f a o ≡ and_more g a o
  by_comma None s = refl
  by_comma (Some rest) s =
      ap (with_first a.0)
      (same rest (omega (arith, action_shorter xs a e, maybe_sign_shorter 44 a.1 rest s)))

-- two bounds that are no less than the text give one list
pub enough : (n m : ℕ) (xs : List ℕ) → length xs ≤ n → length xs ≤ m
    → actions_within n xs ≡ actions_within m xs
unfolding actions_within action_at word_at
enough zero zero xs h k = refl
enough zero (suc m) [] h k = refl
enough zero (suc m) (x ∷ xs) h k = absurd (omega arith)
enough (suc n) zero [] h k = refl
enough (suc n) zero (x ∷ xs) h k = absurd (omega arith)
enough (suc n) (suc m) xs h k =
    same_behind (actions_within n) (actions_within m) xs (action_at xs) refl
    (λ rest l. enough n m rest (omega arith) (omega arith))

-- the list is its first action and, behind a comma, one more list
pub first_and_more : (xs : List ℕ)
    → actions_at xs ≡ (action_at xs >>= λ a. and_more actions_at a (maybe_sign_at 44 a.1))
unfolding actions_within action_at word_at
first_and_more [] = refl
first_and_more (x ∷ xs) =
    same_behind (actions_within (length xs)) actions_at (x ∷ xs) (action_at (x ∷ xs)) refl
    (λ rest l. enough (length xs) (length rest) rest (omega arith) (omega arith))

abbrev from_action : Read ActionForm → Read (List ActionForm)
from_action r = r >>= λ a. and_more actions_at a (maybe_sign_at 44 a.1)

-- no action stands there
pub no_action : (xs : List ℕ) (left : ℕ) → action_at xs ≡ Err left → actions_at xs ≡ Err left
no_action xs left e = first_and_more xs ∙ ap from_action e

-- one stands there, and what follows is known
pub one_action : (xs : List ℕ) (a : ActionForm × List ℕ) (o : Option (List ℕ)) → action_at xs ≡ Ok a
    → o ≡ maybe_sign_at 44 a.1 → actions_at xs ≡ and_more actions_at a o
one_action xs a o e s = first_and_more xs ∙ ap from_action e ∙ ap (and_more actions_at a) (sym s)

-- one more action changes nothing of what follows the list
pub behind_more : (a : ActionForm) (r : Read (List ActionForm))
    → behind_of (with_first a r) ≡ behind_of r
behind_more a (Ok more) = refl
behind_more a (Err left) = refl

-- ---- a list that has its form

more_formed : (a : ActionForm) (r : Read (List ActionForm)) → is_ok (with_first a r) ≡ true
    → is_ok r ≡ true
more_formed a (Ok more) e = refl
more_formed a (Err left) e = absurd cc

more_read : (a : ActionForm) (r : Read (List ActionForm)) → is_ok r ≡ true
    → read_actions (with_first a r) ≡ a ∷ read_actions r
more_read a (Ok more) e = refl
more_read a (Err left) e = absurd cc

-- the others have their form, too
others_formed : (a : ActionForm × List ℕ) (o : Option (Bor (List ℕ)))
    → is_ok (and_more actions_at a (option_copied o)) ≡ true → is_formed o ≡ true
others_formed a None e = refl
others_formed a (Some line) e = more_formed a.0 (actions_at line.now) e

pub rest_formed : (o next : Option (Bor (List ℕ))) (line : Bor (List ℕ)) (a : ActionForm × List ℕ)
    → is_formed o ≡ true → o ≡ Some line → action_at line.now ≡ Ok a
    → option_copied next ≡ maybe_sign_at 44 a.1 → is_formed next ≡ true
rest_formed o next line a formed is e s =
    let here : is_ok (actions_at line.now) ≡ true = sym (ap is_formed is) ∙ formed in
    others_formed a next (sym (ap is_ok (one_action line.now a (option_copied next) e s)) ∙ here)

-- the first action, and the others
others_read : (a : ActionForm × List ℕ) (o : Option (Bor (List ℕ))) → is_formed o ≡ true
    → read_actions (and_more actions_at a (option_copied o)) ≡ a.0 ∷ actions_from o
others_read a None e = refl
others_read a (Some line) e = more_read a.0 (actions_at line.now) e

pub first_read : (o next : Option (Bor (List ℕ))) (line : Bor (List ℕ)) (a : ActionForm × List ℕ)
    → is_formed o ≡ true → o ≡ Some line → action_at line.now ≡ Ok a
    → option_copied next ≡ maybe_sign_at 44 a.1 → actions_from o ≡ a.0 ∷ actions_from next
first_read o next line a formed is e s =
    ap actions_from is ∙ ap read_actions (one_action line.now a (option_copied next) e s)
    ∙ others_read a next (rest_formed o next line a formed is e s)

pub none_read : (o : Option (Bor (List ℕ))) (line : Bor (List ℕ)) (left : ℕ) → o ≡ Some line
    → action_at line.now ≡ Err left → actions_from o ≡ []
none_read o line left is e = ap actions_from is ∙ ap read_actions (no_action line.now left e)

-- where a list stands, it has an action
some_more : (a : ActionForm) (r : Read (List ActionForm)) → is_ok (with_first a r) ≡ true
    → has_some (read_actions (with_first a r)) ≡ true
some_more a (Ok more) e = refl
some_more a (Err left) e = absurd cc

some_behind : (a : ActionForm × List ℕ) (o : Option (List ℕ))
    → is_ok (and_more actions_at a o) ≡ true
    → has_some (read_actions (and_more actions_at a o)) ≡ true
some_behind a None e = refl
some_behind a (Some rest) e = some_more a.0 (actions_at rest) e

some_first : (r : Read ActionForm) → is_ok (from_action r) ≡ true
    → has_some (read_actions (from_action r)) ≡ true
some_first (Ok a) e = some_behind a (maybe_sign_at 44 a.1) e
some_first (Err left) e = absurd cc

some_read : (xs : List ℕ) → is_ok (actions_at xs) ≡ true
    → has_some (read_actions (actions_at xs)) ≡ true
some_read xs e =
    ap (λ (r : Read (List ActionForm)). has_some (read_actions r)) (first_and_more xs)
    ∙ some_first (action_at xs) (sym (ap is_ok (first_and_more xs)) ∙ e)

pub some_where_some : (o : Option (Bor (List ℕ))) → is_formed o ≡ true
    → is_some o ≡ has_some (actions_from o)
some_where_some None e = refl
some_where_some (Some line) e = sym (some_read line.now e)
