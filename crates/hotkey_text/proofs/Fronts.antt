-- What is spelled at the front of a text is spelled there with any other rest behind it, too.
use Rattle.std.proofs.Common.{◌≡◌, ℕ, Bool, List, [], ◌∷◌, ◌++◌, length, refl, ap, sym, subst, ◌∙◌}
use Rattle.std.proofs.Common.{append_assoc}
use Rattle.text_lines.specs.Spelling.{IsGap}
use Rattle.text_lines.proofs.Stopping.{flat}
use Rattle.hotkey_text.specs.Shapes.{ActionForm}
use Rattle.hotkey_text.specs.Spelling.{SpellsBrackets, SpellsAction, SpellsList}

-- ---- tests that read the first byte alone

abbrev pub ByFirst : (List ℕ → Bool) → Type 0
ByFirst f = (b : ℕ) (u v : List ℕ) → f (b ∷ u) ≡ f (b ∷ v)

-- they don't depend on what comes behind the next byte
pub next_first : (f : List ℕ → Bool) → ByFirst f → (good : List ℕ) (b : ℕ) (rest u : List ℕ)
    → f (good ++ b ∷ u) ≡ f (good ++ b ∷ rest)
next_first f same [] b rest u = same b u rest
next_first f same (x ∷ xs) b rest u = same x (xs ++ b ∷ u) (xs ++ b ∷ rest)

pub first_on : (f : List ℕ → Bool) → ByFirst f → (good bad tail : List ℕ) (t : Bool)
    → f (good ++ bad) ≡ t → f tail ≡ t → f (good ++ tail) ≡ t
first_on f same [] bad tail t h k = k
first_on f same (x ∷ xs) bad tail t h k = same x (xs ++ tail) (xs ++ bad) ∙ h

-- ---- what stands in front of the rest

pub record Front {A : Type 0} (Spells : List ℕ → A → List ℕ → Type 0) (xs rest : List ℕ)
    : Type 0 where
  pub front : List ℕ
  pub parts : xs ≡ front ++ rest
  pub on : (tail : List ℕ) → (x : A) × Spells (front ++ tail) x tail

flat_brackets : (o i c xs : List ℕ)
    → (40 ∷ (o ++ (i ++ 41 ∷ c))) ++ xs ≡ 40 ∷ (o ++ (i ++ 41 ∷ (c ++ xs)))
flat_brackets o i c xs = simp append_assoc

pub brackets_front : (xs argument rest : List ℕ) → SpellsBrackets xs argument rest
    → Front SpellsBrackets xs rest
brackets_front xs argument rest s =
    record {
      front = 40 ∷ (s.behind_open ++ (s.inside ++ 41 ∷ s.behind_close));
      parts =
          s.text ∙ ap (λ (t : List ℕ). 40 ∷ (s.behind_open ++ t)) s.closes
          ∙ sym (flat_brackets s.behind_open s.inside s.behind_close rest);
      on = λ tail. (
        s.inside ++ 41 ∷ (s.behind_close ++ tail),
        record {
          behind_open = s.behind_open;
          inside = s.inside;
          behind_close = s.behind_close;
          text = flat_brackets s.behind_open s.inside s.behind_close tail;
          closes = refl;
          run = s.run;
          tight = s.tight;
          gaps = s.gaps;
        },
      );
    }

pub action_front : (xs : List ℕ) (a : ActionForm) (rest : List ℕ) → SpellsAction xs a rest
    → Front SpellsAction xs rest
action_front xs a rest s =
    let b = brackets_front s.brackets a.argument rest s.argument in
    let front = a.word.text ++ (s.behind_word ++ b.front) in
    record {
      front = front;
      parts =
          s.text ∙ ap (λ (t : List ℕ). a.word.text ++ (s.behind_word ++ t)) b.parts
          ∙ sym (flat a.word.text s.behind_word b.front rest);
      on = λ tail. let argument = b.on tail in (
        record {
          word = record { text = a.word.text; left = length (front ++ tail) };
          argument = argument.0;
        },
        record {
          behind_word = s.behind_word;
          brackets = b.front ++ tail;
          text = flat a.word.text s.behind_word b.front tail;
          argument = argument.1;
          word = s.word;
          gap = s.gap;
          place = refl;
        },
      );
    }

-- ---- lists that have an action

abbrev pub SpellsActions : List ℕ → ActionForm × List ActionForm → List ℕ → Type 0
SpellsActions xs actions rest = SpellsList xs (actions.0 ∷ actions.1) rest

-- an action, a comma and one more list
pub one_more : (front gap ys rest : List ℕ) (a : ActionForm)
    (actions : ActionForm × List ActionForm)
    → SpellsAction (front ++ 44 ∷ (gap ++ ys)) a (44 ∷ (gap ++ ys)) → IsGap gap
    → SpellsActions ys actions rest
    → SpellsActions (front ++ 44 ∷ (gap ++ ys)) (a, actions.0 ∷ actions.1) rest
one_more front gap ys rest a actions s g m = (
  44 ∷ (gap ++ ys),
  s,
  record {
    behind_comma = gap;
    here = ys;
    rest = m.0;
    text = refl;
    gap = g;
    action = m.1;
    others = m.2;
  },
)

pub flat_sign : (a : List ℕ) (c : ℕ) (g d xs : List ℕ)
    → (a ++ c ∷ (g ++ d)) ++ xs ≡ a ++ c ∷ (g ++ (d ++ xs))
flat_sign a c g d xs = simp append_assoc

pub actions_front : (xs : List ℕ) (a : ActionForm) (others : List ActionForm) (rest : List ℕ)
    → SpellsList xs (a ∷ others) rest → Front SpellsActions xs rest
actions_front xs a [] rest s =
    let f = action_front xs a s.0 s.1 in
    record {
      front = f.front;
      parts = f.parts ∙ ap (λ (t : List ℕ). f.front ++ t) s.2;
      on = λ tail. let x = f.on tail in ((x.0, []), (tail, x.1, refl));
    }
actions_front xs a (b ∷ others) rest s =
    let n = s.2 in
    let f = action_front xs a s.0 s.1 in
    let m = actions_front n.here b others rest (n.rest, n.action, n.others) in
    record {
      front = f.front ++ 44 ∷ (n.behind_comma ++ m.front);
      parts =
          f.parts
          ∙ ap (λ (t : List ℕ). f.front ++ t)
          (n.text ∙ ap (λ (t : List ℕ). 44 ∷ (n.behind_comma ++ t)) m.parts)
          ∙ sym (flat_sign f.front 44 n.behind_comma m.front rest);
      on = λ tail.
          let y = m.on tail in
          let x = f.on (44 ∷ (n.behind_comma ++ (m.front ++ tail))) in (
            (x.0, y.0.0 ∷ y.0.1),
            subst (λ (t : List ℕ). SpellsActions t (x.0, y.0.0 ∷ y.0.1) tail)
                (sym (flat_sign f.front 44 n.behind_comma m.front tail))
                (one_more f.front n.behind_comma (m.front ++ tail) tail x.0 y.0 x.1 n.gap y.1),
          );
    }
