-- Looking back after one more line.
use Rattle.std.proofs.Common.{◌≡◌, ◌∙◌, ap, refl, ℕ, ◌≤◌, Bool, true, false, cond, List, [], ◌∷◌}
use Rattle.std.proofs.Common.{◌++◌, arith}
use Rattle.std.specs.Option.{option_or}
use Rattle.std.specs.Prelude.{Option, None, Some}
use Rattle.std.specs.List.{filter}
use Rattle.std.proofs.lemmas.Bool.{eq-eqb, ne_eqb}
use Rattle.std.proofs.lemmas.List.{append-nil}
use Rattle.std.proofs.lemmas.List.Elements.{filter-append}
use Rattle.held_inputs.specs.declared.line.Line.{Line}
use Rattle.held_inputs.specs.declared.line.Line.TheVariants.{KeyDown, KeyRepeat, KeyUp, ButtonDown}
use Rattle.held_inputs.specs.declared.line.Line.TheVariants.{ButtonUp}
use Rattle.held_inputs.specs.Down.{last_where, names_key, presses_key, names_button, down}
use Rattle.held_inputs.specs.Down.{is_button_down, above, reach}

pub last-snoc : {X : Type 0} (test : X → Bool) (xs : List X) (x : X)
    → last_where test (xs ++ x ∷ []) ≡ cond (test x) (Some x) (last_where test xs)
unfolding last_where
last-snoc test [] x = refl
last-snoc test (y ∷ xs) x =
    ap (λ o. option_or o (cond (test y) (Some y) None)) (last-snoc test xs x) ∙ over (test x)
  where
    over : (t : Bool)
        → option_or (cond t (Some x) (last_where test xs)) (cond (test y) (Some y) None)
        ≡ cond t (Some x) (option_or (last_where test xs) (cond (test y) (Some y) None))
    over true = refl
    over false = refl

pub filter-snoc : {X : Type 0} (test : X → Bool) (xs : List X) (x : X)
    → filter test (xs ++ x ∷ []) ≡ cond (test x) (filter test xs ++ x ∷ []) (filter test xs)
filter-snoc test xs x = filter-append test xs (x ∷ []) ∙ over (test x)
  where
    over : (t : Bool)
        → filter test xs ++ cond t (x ∷ []) [] ≡ cond t (filter test xs ++ x ∷ []) (filter test xs)
    over true = refl
    over false = append-nil (filter test xs)

not_pressed : (b : ℕ) (l : Line) → names_key b l ≡ false → presses_key b l ≡ false
not_pressed b (KeyDown id button mask) h = h
not_pressed b l h = refl

pub down-other : (b : ℕ) (xs : List Line) (l : Line) → names_key b l ≡ false
    → down (xs ++ l ∷ []) b ≡ down xs b
unfolding down
down-other b xs l h =
    let p : presses_key b l ≡ false = not_pressed b l h in
    rw (last-snoc (names_key b) xs l, last-snoc (presses_key b) xs l, h, p) refl

pub down-press : (b id mask : ℕ) (xs : List Line) → down (xs ++ KeyDown id b mask ∷ []) b ≡ Some id
unfolding down
down-press b id mask xs =
    rw (
      last-snoc (names_key b) xs (KeyDown id b mask),
      last-snoc (presses_key b) xs (KeyDown id b mask),
      eq-eqb b b refl,
    )
    refl

chosen : (t : Bool) (o : Option ℕ) (id : ℕ) → cond t o None ≡ Some id → o ≡ Some id
chosen true o id h = h
chosen false o id h = absurd (let x : ⊥ = cc in x)

pub down-rep : (b id count mask : ℕ) (xs : List Line) → down xs b ≡ Some id
    → down (xs ++ KeyRepeat id count b mask ∷ []) b ≡ Some id
unfolding down
down-rep b id count mask xs h =
    rw (
      last-snoc (names_key b) xs (KeyRepeat id count b mask),
      last-snoc (presses_key b) xs (KeyRepeat id count b mask),
      eq-eqb b b refl,
    )
    (chosen _ _ id h)

pub down-up : (b id : ℕ) (xs : List Line) → down (xs ++ KeyUp id b ∷ []) b ≡ None
unfolding down
down-up b id xs = rw (last-snoc (names_key b) xs (KeyUp id b), eq-eqb b b refl) refl

pub button-other : (b : ℕ) (xs : List Line) (l : Line) → names_button b l ≡ false
    → is_button_down (xs ++ l ∷ []) b ≡ is_button_down xs b
unfolding is_button_down
button-other b xs l h = rw (last-snoc (names_button b) xs l, h) refl

pub button-press : (b : ℕ) (xs : List Line) → is_button_down (xs ++ ButtonDown b ∷ []) b ≡ true
unfolding is_button_down
button-press b xs = rw (last-snoc (names_button b) xs (ButtonDown b), eq-eqb b b refl) refl

pub button-lift : (b : ℕ) (xs : List Line) → is_button_down (xs ++ ButtonUp b ∷ []) b ≡ false
unfolding is_button_down
button-lift b xs = rw (last-snoc (names_button b) xs (ButtonUp b), eq-eqb b b refl) refl

-- nothing at or above `reach` is named
unnamed_key : (b : ℕ) (l : Line) → above l ≤ b → names_key b l ≡ false
unnamed_key b (KeyDown id button mask) h = ne_eqb button b (λ e. omega arith)
unnamed_key b (KeyRepeat id count button mask) h = ne_eqb button b (λ e. omega arith)
unnamed_key b (KeyUp id button) h = ne_eqb button b (λ e. omega arith)
unnamed_key b l h = refl

unnamed_button : (b : ℕ) (l : Line) → above l ≤ b → names_button b l ≡ false
unnamed_button b (ButtonDown button) h = ne_eqb button b (λ e. omega arith)
unnamed_button b (ButtonUp button) h = ne_eqb button b (λ e. omega arith)
unnamed_button b l h = refl

no_last : (test : Line → Bool) (b : ℕ) → ((l : Line) → above l ≤ b → test l ≡ false)
    → (xs : List Line) → reach xs ≤ b → last_where test xs ≡ None
unfolding last_where reach
no_last test b none [] h = refl
no_last test b none (x ∷ xs) h =
    rw (no_last test b none xs (omega arith), none x (omega arith)) refl

pub down_past : (b : ℕ) (xs : List Line) → reach xs ≤ b → down xs b ≡ None
unfolding down
down_past b xs h = rw (no_last (names_key b) b (unnamed_key b) xs h) refl

pub button_past : (b : ℕ) (xs : List Line) → reach xs ≤ b → is_button_down xs b ≡ false
unfolding is_button_down
button_past b xs h = rw (no_last (names_button b) b (unnamed_button b) xs h) refl
