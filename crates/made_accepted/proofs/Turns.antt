-- What is down after one line more, and after one event more.
use Rattle.std.proofs.Common.{◌≡◌, ℕ, zero, suc, ◌+◌, ◌%◌, ◌<◌, ◌==◌, Bool, true, false, cond, not}
use Rattle.std.proofs.Common.{List}
use Rattle.std.proofs.Common.{[], ◌∷◌, ◌++◌, refl, ap, sym, subst, ◌∙◌, inl, inr, arith}
use Rattle.std.specs.Prelude.{count_by}
use Rattle.std.proofs.lemmas.Bool.{cases_eq, ne_eqb}
use Rattle.std.proofs.lemmas.List.Sums.{sum_by_push}
use Rattle.script_screen.specs.Scripts.{key_after, button_after}
use Rattle.made_accepted.specs.Spoken.{key_turn, button_turn}

-- an odd count is even with one more, and an even one is odd
odd_by : (r s : ℕ) → r < 2 → s + r ≡ 1 → (s == 1) ≡ not (r == 1)
odd_by zero s h e = let one : s ≡ 1 = omega arith in ap (λ (k : ℕ). k == 1) one
odd_by (suc zero) s h e = let none : s ≡ 0 = omega arith in ap (λ (k : ℕ). k == 1) none
odd_by (suc (suc r)) s h e = absurd (omega arith)

one_more : (n : ℕ) → ((n + 1) % 2 == 1) ≡ not (n % 2 == 1)
one_more n = odd_by (n % 2) ((n + 1) % 2) (omega arith) (omega arith)

pub counted_more : {A : Type 0} (p : A → Bool) (xs : List A) (x : A)
    → (count_by p (xs ++ x ∷ []) % 2 == 1) ≡ ((count_by p xs + cond (p x) 1 0) % 2 == 1)
counted_more p xs x = ap (λ (n : ℕ). n % 2 == 1) (sum_by_push (λ x. cond (p x) 1 0) xs x)

-- whether a button is down after another's turn, and after its own
abbrev turned : Bool → Bool → Bool → Bool
turned is_down same before = cond is_down (cond same false before) (cond same true before)

other_turn : (is_down before : Bool) → turned is_down false before ≡ before
other_turn true before = refl
other_turn false before = refl

own_turn : (is_down : Bool) → turned is_down true is_down ≡ not is_down
own_turn true = refl
own_turn false = refl

same_button : (b : ℕ) → (b == b) ≡ true
same_button b = grind arith

-- the count stays
pub none_more : (n : ℕ) → (n % 2 == 1) ≡ ((n + 0) % 2 == 1)
none_more n = let same : n ≡ n + 0 = omega arith in ap (λ (k : ℕ). k % 2 == 1) same

turned_right : (down : ℕ → Bool) (b c n : ℕ) → down b ≡ (n % 2 == 1)
    → turned (down c) (b == c) (down b) ≡ ((n + cond (c == b) 1 0) % 2 == 1)
turned_right down b c n h =
    elim (cases_eq b c) [
      | inl e ↦
          subst (λ (k : ℕ). turned (down k) (b == k) (down b) ≡ ((n + cond (k == b) 1 0) % 2 == 1))
          e
          (rw (same_button b) (own_turn (down b) ∙ ap not h ∙ sym (one_more n)))
      | inr other ↦
          rw (ne_eqb b c other, ne_eqb c b (λ e. other (sym e)))
          (other_turn (down c) (down b) ∙ h ∙ none_more n)
    ]

key_seen : (t : Bool) (b c : ℕ) (before : Bool)
    → key_after b before (key_turn t c) ≡ turned t (b == c) before
key_seen true b c before = refl
key_seen false b c before = refl

button_seen : (t : Bool) (b c : ℕ) (before : Bool)
    → button_after b before (button_turn t c) ≡ turned t (b == c) before
button_seen true b c before = refl
button_seen false b c before = refl

-- a key's turn, and a mouse button's
pub key_turned : (down : ℕ → Bool) (b c n : ℕ) → down b ≡ (n % 2 == 1)
    → key_after b (down b) (key_turn (down c) c) ≡ ((n + cond (c == b) 1 0) % 2 == 1)
key_turned down b c n h = key_seen (down c) b c (down b) ∙ turned_right down b c n h

pub button_turned : (down : ℕ → Bool) (b c n : ℕ) → down b ≡ (n % 2 == 1)
    → button_after b (down b) (button_turn (down c) c) ≡ ((n + cond (c == b) 1 0) % 2 == 1)
button_turned down b c n h = button_seen (down c) b c (down b) ∙ turned_right down b c n h

-- a mouse button's turn leaves keys as they were, and a key's turn mouse buttons
pub key_stays : (t : Bool) (b c : ℕ) (before : Bool) → key_after b before (button_turn t c) ≡ before
key_stays true b c before = refl
key_stays false b c before = refl

pub button_stays : (t : Bool) (b c : ℕ) (before : Bool)
    → button_after b before (key_turn t c) ≡ before
button_stays true b c before = refl
button_stays false b c before = refl
