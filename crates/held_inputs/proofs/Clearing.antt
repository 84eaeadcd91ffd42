-- After its releases nothing is down on a screen.
use Rattle.std.proofs.Common.{◌≡◌, ◌∙◌, ap, sym, subst, refl, inl, inr, ℕ, zero, suc, ◌<◌, ◌≤◌}
use Rattle.std.proofs.Common.{Bool, true, false, cond, List, [], ◌∷◌, ◌++◌, map, arith}
use Rattle.std.proofs.Common.{append_assoc}
use Rattle.std.specs.Prelude.{Option, None, Some}
use Rattle.std.proofs.lemmas.Bool.{ne_eqb, cases_lt}
use Rattle.std.proofs.lemmas.List.{append-nil, map-append}
use Rattle.held_inputs.specs.declared.line.Line.{Line}
use Rattle.held_inputs.specs.declared.line.Line.TheVariants.{KeyUp, ButtonUp}
use Rattle.held_inputs.specs.Down.{down, is_button_down, reach, held_one, keys_below, buttons_below}
use Rattle.held_inputs.specs.Down.{held_keys, held_buttons, up_of, releases}
use Rattle.held_inputs.specs.Balanced.{NothingDown}
use Rattle.held_inputs.proofs.Looking.{down-other, down-up, button-other, button-lift, down_past}
use Rattle.held_inputs.proofs.Looking.{button_past}
use Rattle.held_inputs.proofs.Good.{Good, good-step}

-- the keys below n went up
record Lifted (lines now : List Line) (n : ℕ) : Type 0 where
  good : Good lines → Good now
  gone : (b : ℕ) → b < n → down now b ≡ None
  rest : (b : ℕ) → n ≤ b → down now b ≡ down lines b
  buttons : (b : ℕ) → is_button_down now b ≡ is_button_down lines b

lifted-step : (lines now : List Line) (n : ℕ) → Lifted lines now n → (o : Option ℕ)
    → down lines n ≡ o → Lifted lines (now ++ map up_of (held_one n o)) (suc n)
lifted-step lines now n h None e = rw (append-nil now) (record {
  good = h.good;
  gone = λ b lt. elim (cases_lt b n) [
    | inl w ↦ h.gone b w
    | inr w ↦ let same : n ≡ b =
        omega arith in subst (λ (k : ℕ). down now k ≡ None) same (h.rest n (omega arith) ∙ e)
  ];
  rest = λ b le. h.rest b (omega arith);
  buttons = h.buttons;
})
lifted-step lines now n h (Some id) e = record {
  good = λ g. good-step now (KeyUp id n) (h.good g) (h.rest n (omega arith) ∙ e);
  gone = λ b lt. elim (cases_lt b n) [
    | inl w ↦ down-other b now (KeyUp id n) (ne_eqb n b (λ q. omega arith)) ∙ h.gone b w
    | inr w ↦ let same : n ≡ b =
        omega arith in
        subst (λ (k : ℕ). down (now ++ KeyUp id n ∷ []) k ≡ None) same (down-up n id now)
  ];
  rest =
      λ b le. down-other b now (KeyUp id n) (ne_eqb n b (λ q. omega arith))
      ∙ h.rest b (omega arith);
  buttons = λ b. button-other b now (KeyUp id n) refl ∙ h.buttons b;
}

lifted : (lines : List Line) (n : ℕ) → Lifted lines (lines ++ map up_of (keys_below lines n)) n
unfolding keys_below
lifted lines zero =
    rw (append-nil lines)
    (record {
      good = λ g. g;
      gone = λ b lt. absurd (omega arith);
      rest = λ b le. refl;
      buttons = λ b. refl;
    })
lifted lines (suc n) =
    subst (λ (t : List Line). Lifted lines t (suc n))
    (append_assoc lines (map up_of (keys_below lines n)) (map up_of (held_one n (down lines n)))
    ∙ ap (λ (t : List Line). lines ++ t)
    (sym (map-append up_of (keys_below lines n) (held_one n (down lines n)))))
    (lifted-step lines (lines ++ map up_of (keys_below lines n)) n (lifted lines n) (down lines n)
    refl)

-- the mouse buttons below n went up, after all keys
record Raised (lines now : List Line) (n : ℕ) : Type 0 where
  good : Good lines → Good now
  gone : (b : ℕ) → b < n → is_button_down now b ≡ false
  rest : (b : ℕ) → n ≤ b → is_button_down now b ≡ is_button_down lines b
  keys : (b : ℕ) → down now b ≡ None

raised-step : (lines now : List Line) (n : ℕ) → Raised lines now n → (t : Bool)
    → is_button_down lines n ≡ t → Raised lines (now ++ map ButtonUp (cond t (n ∷ []) [])) (suc n)
raised-step lines now n h false e = rw (append-nil now) (record {
  good = h.good;
  gone = λ b lt. elim (cases_lt b n) [
    | inl w ↦ h.gone b w
    | inr w ↦ let same : n ≡ b =
        omega arith in
        subst (λ (k : ℕ). is_button_down now k ≡ false) same (h.rest n (omega arith) ∙ e)
  ];
  rest = λ b le. h.rest b (omega arith);
  keys = h.keys;
})
raised-step lines now n h true e = record {
  good = λ g. good-step now (ButtonUp n) (h.good g) (h.rest n (omega arith) ∙ e);
  gone = λ b lt. elim (cases_lt b n) [
    | inl w ↦ button-other b now (ButtonUp n) (ne_eqb n b (λ q. omega arith)) ∙ h.gone b w
    | inr w ↦ let same : n ≡ b =
        omega arith in
        subst (λ (k : ℕ). is_button_down (now ++ ButtonUp n ∷ []) k ≡ false) same
        (button-lift n now)
  ];
  rest =
      λ b le. button-other b now (ButtonUp n) (ne_eqb n b (λ q. omega arith))
      ∙ h.rest b (omega arith);
  keys = λ b. down-other b now (ButtonUp n) refl ∙ h.keys b;
}

raised : (lines start : List Line) → Raised lines start 0 → (n : ℕ)
    → Raised lines (start ++ map ButtonUp (buttons_below lines n)) n
unfolding buttons_below
raised lines start h zero = rw (append-nil start) h
raised lines start h (suc n) =
    subst (λ (t : List Line). Raised lines t (suc n))
    (append_assoc start (map ButtonUp (buttons_below lines n))
    (map ButtonUp (cond (is_button_down lines n) (n ∷ []) []))
    ∙ ap (λ (t : List Line). start ++ t)
    (sym
    (map-append ButtonUp (buttons_below lines n)
    (cond (is_button_down lines n) (n ∷ []) []))))
    (raised-step lines (start ++ map ButtonUp (buttons_below lines n)) n (raised lines start h n)
    (is_button_down lines n) refl)

released : (lines : List Line)
    → (Good lines → Good (lines ++ releases lines)) × NothingDown (lines ++ releases lines)
unfolding releases held_keys held_buttons
released lines =
    let ups : List Line = lines ++ map up_of (keys_below lines (reach lines)) in
    let k : Lifted lines ups (reach lines) = lifted lines (reach lines) in
    let start : Raised lines ups 0 = record {
      good = k.good;
      gone = λ b lt. absurd (omega arith);
      rest = λ b le. k.buttons b;
      keys =
          λ b.
          elim (cases_lt b (reach lines))
          [ inl w ↦ k.gone b w | inr w ↦ k.rest b w ∙ down_past b lines w ];
    } in
    let all : Raised lines (ups ++ map ButtonUp (buttons_below lines (reach lines))) (reach lines) =
    raised lines ups start (reach lines) in
    subst (λ (t : List Line). (Good lines → Good t) × NothingDown t)
    (append_assoc lines (map up_of (keys_below lines (reach lines)))
    (map ButtonUp (buttons_below lines (reach lines)))) (
      all.good,
      record {
        keys = all.keys;
        buttons =
            λ b.
            elim (cases_lt b (reach lines))
            [ inl w ↦ all.gone b w | inr w ↦ all.rest b w ∙ button_past b lines w ];
      },
    )

-- whatever the lines were, nothing is down after the releases
pub cleared : (lines : List Line) → NothingDown (lines ++ releases lines)
cleared lines = (released lines).1

pub good-releases : (lines : List Line) → Good lines → Good (lines ++ releases lines)
good-releases lines = (released lines).0
