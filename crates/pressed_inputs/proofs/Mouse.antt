-- Buttons of the mouse in a table of tests.
use Rattle.std.proofs.Common.{◌≡◌, ℕ, suc, ◌<◌, ◌≢◌, Bool, true, false, not, ◌||◌, List, [], ◌∷◌, length, Some, refl, sym, ap, ◌∙◌, arith, cond}
use Rattle.std.specs.Prelude.{◌==◌, filter, slice_get, All}
use Rattle.std.specs.List.{list_any}
use Rattle.std.proofs.lemmas.List.Folds.{list_any_at}
use Rattle.std.proofs.lemmas.List.Elements.{All-head}
use Rattle.std.proofs.lemmas.Option.{get_or_from_slice_get}
use Rattle.pressed_inputs.specs.Tables.{Tabulates}
use Rattle.pressed_inputs.specs.Inputs.{is_among, is_some_down}
use Rattle.pressed_inputs.proofs.Takings.{same_test, other_test, equal}

-- ---- down

pub down_here : (k : ℕ) (buttons : List ℕ) → is_among (k ∷ buttons) k ≡ true
down_here k buttons = ap (λ (test : Bool). test || is_among buttons k) (same_test k k refl)

pub down_elsewhere : (k n : ℕ) (buttons : List ℕ) → n ≢ k → is_among (k ∷ buttons) n ≡ is_among buttons n
down_elsewhere k n buttons ne = ap (λ (test : Bool). test || is_among buttons n) (other_test k n (λ e. ne (sym e)))

-- ---- up

abbrev pub without : ℕ → List ℕ → List ℕ
without k buttons = filter (λ n. not (n == k)) buttons

pub up_here : (k : ℕ) (buttons : List ℕ) → is_among (without k buttons) k ≡ false
up_here k [] = refl
up_here k (b ∷ bs) = by (up_here k bs) (b == k) refl
  where
    by : is_among (without k bs) k ≡ false → (t : Bool) → (b == k) ≡ t → is_among (cond (not t) (b ∷ without k bs) (without k bs)) k ≡ false
    by rest true e = rest
    by rest false e = ap (λ (test : Bool). test || is_among (without k bs) k) e ∙ rest

pub up_elsewhere : (k n : ℕ) (buttons : List ℕ) → n ≢ k → is_among (without k buttons) n ≡ is_among buttons n
up_elsewhere k n [] ne = refl
up_elsewhere k n (b ∷ bs) ne = by (up_elsewhere k n bs ne) (b == k) refl
  where
    by : is_among (without k bs) n ≡ is_among bs n → (t : Bool) → (b == k) ≡ t → is_among (cond (not t) (b ∷ without k bs) (without k bs)) n ≡ is_among (b ∷ bs) n
    by rest true e = rest ∙ sym (ap (λ (test : Bool). test || is_among bs n) (other_test b n (λ same. ne (sym same ∙ equal b k e))))
    by rest false e = ap (λ (others : Bool). (b == n) || others) rest

-- ---- whether one is down

none_passes : (table : List Bool) → ((n : ℕ) → n < length table → slice_get table n ≡ Some false) → list_any (λ (d : Bool). d) table ≡ false
none_passes [] each = refl
none_passes (d ∷ ds) each =
    let first : Some d ≡ Some false = each 0 (omega arith) in
    let here : d ≡ false = cc in
    ap (λ (test : Bool). test || list_any (λ (x : Bool). x) ds) here ∙ none_passes ds (λ n lt. each (suc n) (omega arith))

pub some_down : (table : List Bool) (buttons : List ℕ) → Tabulates Bool table (is_among buttons) → All (λ b. b < 256) buttons → list_any (λ (d : Bool). d) table ≡ is_some_down buttons
some_down table [] t below = none_passes table (λ n lt. t.each n (omega (arith, t.long)))
some_down table (b ∷ bs) t below =
    let lt : b < 256 = All-head (λ b. b < 256) b bs below in
    let here : slice_get table b ≡ Some true = t.each b lt ∙ ap (λ (d : Bool). Some d) (down_here b bs) in
    let passes : list_any (λ (d : Bool). d) table ≡ true = list_any_at (λ (d : Bool). d) table b false (omega (arith, t.long)) (get_or_from_slice_get table b true false here) in
    passes ∙ sym (ap not (other_test (length (b ∷ bs)) 0 (λ e. omega arith)))
