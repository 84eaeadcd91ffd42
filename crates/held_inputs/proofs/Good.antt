-- Lines each of which may stand after those before it.
use Rattle.std.proofs.Common.{◌≡◌, ◌∙◌, ap, sym, subst, refl, inl, inr, ℕ, zero, suc, Bool, true}
use Rattle.std.proofs.Common.{false, List, [], ◌∷◌, ◌++◌, map, take, append_assoc}
use Rattle.std.specs.Prelude.{Option, None, Some, ◌⊎◌, slice_get}
use Rattle.std.specs.List.{filter, flat_map}
use Rattle.std.proofs.lemmas.Bool.{eq-eqb}
use Rattle.std.proofs.lemmas.Bool.Decides.{eqb_tells}
use Rattle.std.proofs.lemmas.List.{append-nil, map-append}
use Rattle.std.proofs.lemmas.List.Concat.{flat_map-append}
use Rattle.held_inputs.specs.declared.line.Line.{Line}
use Rattle.held_inputs.specs.declared.line.Line.TheVariants.{Leave, KeyDown, KeyRepeat, KeyUp}
use Rattle.held_inputs.specs.declared.line.Line.TheVariants.{ButtonDown, ButtonUp}
use Rattle.held_inputs.specs.Down.{names_key, names_button, down, is_button_down}
use Rattle.held_inputs.specs.Balanced.{Again, Press, repeat_of, press_lines, clicks, NothingDown}
use Rattle.held_inputs.specs.Balanced.{ClearAtLeaves}
use Rattle.held_inputs.proofs.Looking.{filter-snoc, down-other, down-press, down-rep, down-up}
use Rattle.held_inputs.proofs.Looking.{button-other, button-press, button-lift}

-- whole presses, and an open one where the key is down
abbrev pub Open : ℕ → Option ℕ → List Line → Type 0
Open b None xs = (presses : List Press) × (xs ≡ flat_map (press_lines b) presses)
Open b (Some id) xs =
    (presses : List Press) × (mask : ℕ) × (repeats : List Again)
    × (xs ≡ flat_map (press_lines b) presses ++ (KeyDown id b mask ∷ map (repeat_of id b) repeats))

abbrev pub Half : ℕ → Bool → List Line → Type 0
Half b false xs = (n : ℕ) × (xs ≡ clicks b n)
Half b true xs = (n : ℕ) × (xs ≡ clicks b n ++ ButtonDown b ∷ [])

abbrev pub May : List Line → Line → Type 0
May lines Leave = NothingDown lines
May lines (KeyDown id b mask) = down lines b ≡ None
May lines (KeyRepeat id count b mask) = down lines b ≡ Some id
May lines (KeyUp id b) = down lines b ≡ Some id
May lines (ButtonDown b) = is_button_down lines b ≡ false
May lines (ButtonUp b) = is_button_down lines b ≡ true
May lines _ = Unit {0}

pub record Good (lines : List Line) : Type 0 where
  pub keys : (b : ℕ) → Open b (down lines b) (filter (names_key b) lines)
  pub buttons : (b : ℕ) → Half b (is_button_down lines b) (filter (names_button b) lines)
  pub leaves : ClearAtLeaves lines

open-down : (b id mask : ℕ) (xs : List Line) → Open b None xs
    → Open b (Some id) (xs ++ KeyDown id b mask ∷ [])
open-down b id mask xs (presses, e) =
    (presses, mask, [], ap (λ (t : List Line). t ++ KeyDown id b mask ∷ []) e)

open-rep : (b id count mask : ℕ) (xs : List Line) → Open b (Some id) xs
    → Open b (Some id) (xs ++ KeyRepeat id count b mask ∷ [])
open-rep b id count mask xs (presses, first, repeats, e) = (
  presses,
  first,
  repeats ++ record { count = count; mask = mask } ∷ [],
  ap (λ (t : List Line). t ++ KeyRepeat id count b mask ∷ []) e
      ∙ append_assoc (flat_map (press_lines b) presses)
      (KeyDown id b first ∷ map (repeat_of id b) repeats) (KeyRepeat id count b mask ∷ [])
      ∙ ap (λ (t : List Line). flat_map (press_lines b) presses ++ (KeyDown id b first ∷ t))
      (sym (map-append (repeat_of id b) repeats (record { count = count; mask = mask } ∷ []))),
)

open-up : (b id : ℕ) (xs : List Line) → Open b (Some id) xs → Open b None (xs ++ KeyUp id b ∷ [])
open-up b id xs (presses, first, repeats, e) =
    let g : Press = record { id = id; mask = first; repeats = repeats } in (
      presses ++ g ∷ [],
      ap (λ (t : List Line). t ++ KeyUp id b ∷ []) e
          ∙ append_assoc (flat_map (press_lines b) presses)
          (KeyDown id b first ∷ map (repeat_of id b) repeats) (KeyUp id b ∷ [])
          ∙ sym
          (flat_map-append (press_lines b) presses (g ∷ [])
          ∙ ap (λ (t : List Line). flat_map (press_lines b) presses ++ t)
          (append-nil (press_lines b g))),
    )

open-other : (b : ℕ) (xs : List Line) (l : Line) → names_key b l ≡ false
    → Open b (down xs b) (filter (names_key b) xs)
    → Open b (down (xs ++ l ∷ []) b) (filter (names_key b) (xs ++ l ∷ []))
open-other b xs l other h = rw (down-other b xs l other, filter-snoc (names_key b) xs l, other) h

open-step : (b : ℕ) (xs : List Line) (l : Line) → May xs l
    → Open b (down xs b) (filter (names_key b) xs)
    → Open b (down (xs ++ l ∷ []) b) (filter (names_key b) (xs ++ l ∷ []))
open-step b xs (KeyDown id at mask) may h = elim (eqb_tells at b) [
  | inl w ↦ let m : down xs b ≡ None = subst (λ (k : ℕ). down xs k ≡ None) w.1 may in
      subst
      (λ (k : ℕ).
      Open b (down (xs ++ KeyDown id k mask ∷ []) b)
      (filter (names_key b) (xs ++ KeyDown id k mask ∷ [])))
      (sym w.1)
      (rw (
        down-press b id mask xs,
        filter-snoc (names_key b) xs (KeyDown id b mask),
        eq-eqb b b refl,
      )
      (open-down b id mask _ (rw m at h)))
  | inr w ↦ open-other b xs (KeyDown id at mask) w.0 h
]
open-step b xs (KeyRepeat id count at mask) may h = elim (eqb_tells at b) [
  | inl w ↦ let m : down xs b ≡ Some id = subst (λ (k : ℕ). down xs k ≡ Some id) w.1 may in
      subst
      (λ (k : ℕ).
      Open b (down (xs ++ KeyRepeat id count k mask ∷ []) b)
      (filter (names_key b) (xs ++ KeyRepeat id count k mask ∷ [])))
      (sym w.1)
      (rw (
        down-rep b id count mask xs m,
        filter-snoc (names_key b) xs (KeyRepeat id count b mask),
        eq-eqb b b refl,
      )
      (open-rep b id count mask _ (rw m at h)))
  | inr w ↦ open-other b xs (KeyRepeat id count at mask) w.0 h
]
open-step b xs (KeyUp id at) may h = elim (eqb_tells at b) [
  | inl w ↦ let m : down xs b ≡ Some id = subst (λ (k : ℕ). down xs k ≡ Some id) w.1 may in
      subst
      (λ (k : ℕ).
      Open b (down (xs ++ KeyUp id k ∷ []) b)
      (filter (names_key b) (xs ++ KeyUp id k ∷ [])))
      (sym w.1)
      (rw (down-up b id xs, filter-snoc (names_key b) xs (KeyUp id b), eq-eqb b b refl)
      (open-up b id _ (rw m at h)))
  | inr w ↦ open-other b xs (KeyUp id at) w.0 h
]
open-step b xs l may h = open-other b xs l refl h

half-other : (b : ℕ) (xs : List Line) (l : Line) → names_button b l ≡ false
    → Half b (is_button_down xs b) (filter (names_button b) xs)
    → Half b (is_button_down (xs ++ l ∷ []) b) (filter (names_button b) (xs ++ l ∷ []))
half-other b xs l other h =
    rw (button-other b xs l other, filter-snoc (names_button b) xs l, other) h

half-down : (b : ℕ) (xs : List Line) → Half b false xs → Half b true (xs ++ ButtonDown b ∷ [])
half-down b xs (n, e) = (n, ap (λ (t : List Line). t ++ ButtonDown b ∷ []) e)

clicks-more : (b n : ℕ) → (clicks b n ++ ButtonDown b ∷ []) ++ ButtonUp b ∷ [] ≡ clicks b (suc n)
clicks-more b zero = refl
clicks-more b (suc n) = ap (λ (t : List Line). ButtonDown b ∷ ButtonUp b ∷ t) (clicks-more b n)

half-up : (b : ℕ) (xs : List Line) → Half b true xs → Half b false (xs ++ ButtonUp b ∷ [])
half-up b xs (n, e) = (suc n, ap (λ (t : List Line). t ++ ButtonUp b ∷ []) e ∙ clicks-more b n)

half-step : (b : ℕ) (xs : List Line) (l : Line) → May xs l
    → Half b (is_button_down xs b) (filter (names_button b) xs)
    → Half b (is_button_down (xs ++ l ∷ []) b) (filter (names_button b) (xs ++ l ∷ []))
half-step b xs (ButtonDown at) may h = elim (eqb_tells at b) [
  | inl w ↦ let m : is_button_down xs b ≡ false =
      subst (λ (k : ℕ). is_button_down xs k ≡ false) w.1 may in
      subst
      (λ (k : ℕ).
      Half b (is_button_down (xs ++ ButtonDown k ∷ []) b)
      (filter (names_button b) (xs ++ ButtonDown k ∷ [])))
      (sym w.1)
      (rw (button-press b xs, filter-snoc (names_button b) xs (ButtonDown b), eq-eqb b b refl)
      (half-down b _ (rw m at h)))
  | inr w ↦ half-other b xs (ButtonDown at) w.0 h
]
half-step b xs (ButtonUp at) may h = elim (eqb_tells at b) [
  | inl w ↦ let m : is_button_down xs b ≡ true =
      subst (λ (k : ℕ). is_button_down xs k ≡ true) w.1 may in
      subst
      (λ (k : ℕ).
      Half b (is_button_down (xs ++ ButtonUp k ∷ []) b)
      (filter (names_button b) (xs ++ ButtonUp k ∷ [])))
      (sym w.1)
      (rw (button-lift b xs, filter-snoc (names_button b) xs (ButtonUp b), eq-eqb b b refl)
      (half-up b _ (rw m at h)))
  | inr w ↦ half-other b xs (ButtonUp at) w.0 h
]
half-step b xs l may h = half-other b xs l refl h

-- an element of a list with one more: of the list, or the one more
get-snoc : {X : Type 0} (xs : List X) (x y : X) (n : ℕ) → slice_get (xs ++ x ∷ []) n ≡ Some y
    → ((slice_get xs n ≡ Some y) × (take n (xs ++ x ∷ []) ≡ take n xs))
    ⊎ ((x ≡ y) × (take n (xs ++ x ∷ []) ≡ xs))
get-snoc [] x y zero h = inr (cc, refl)
get-snoc [] x y (suc n) h = absurd (let f : ⊥ = cc in f)
get-snoc (z ∷ xs) x y zero h = inl (h, refl)
get-snoc (z ∷ xs) x y (suc n) h = elim (get-snoc xs x y n h) [
  | inl w ↦ inl (w.0, ap (λ t. z ∷ t) w.1)
  | inr w ↦ inr (w.0, ap (λ t. z ∷ t) w.1)
]

leaves-step : (xs : List Line) (l : Line) → May xs l → ClearAtLeaves xs
    → ClearAtLeaves (xs ++ l ∷ [])
leaves-step xs l may h n at = elim (get-snoc xs l Leave n at) [
  | inl w ↦ rw (w.1) (h n w.0)
  | inr w ↦ rw (w.1) (let m : May xs Leave = subst (λ (k : Line). May xs k) w.0 may in m)
]

pub good-step : (xs : List Line) (l : Line) → Good xs → May xs l → Good (xs ++ l ∷ [])
good-step xs l h may = record {
  keys = λ b. open-step b xs l may (h.keys b);
  buttons = λ b. half-step b xs l may (h.buttons b);
  leaves = leaves-step xs l may h.leaves;
}
