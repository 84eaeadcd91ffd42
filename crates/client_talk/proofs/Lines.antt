-- Lines of a script, one after another.
use Rattle.std.proofs.Common.{◌≡◌, ◌∙◌, ap, sym, refl, ℕ, zero, suc, ◌+◌, ◌≤◌, Bool, true, false, List, [], ◌∷◌, length, drop, Some, None, arith}
use Rattle.std.specs.Prelude.{slice_get, if◌then◌else◌}
use Rattle.std.proofs.Math.Numerals.{add-one}
use Rattle.script_screen.specs.declared.client_script.ClientLine.{ClientLine}
use Rattle.script_screen.specs.declared.client_script.ClientLine.TheVariants as line
use Rattle.client_talk.specs.Talks.{Talk}
use Rattle.client_talk.specs.Scripts.{may_run, does, past, past_one, run_ahead, run_script, RunsNext}

-- ---- lists

pub drop-some : {A : Type 0} (xs : List A) (n : ℕ) (x : A) → slice_get xs n ≡ Some x → drop n xs ≡ x ∷ drop 1 (drop n xs)
drop-some [] n x is = absurd cc
drop-some (y ∷ ys) zero x is = ap (λ z. z ∷ ys) (same y x is)
  where
    same : {A : Type 0} (a b : A) → Some a ≡ Some b → a ≡ b
    same a b e = cc
drop-some (y ∷ ys) (suc n) x is = drop-some ys n x is

pub drop-none : {A : Type 0} (xs : List A) (n : ℕ) → slice_get xs n ≡ None → drop n xs ≡ []
drop-none [] zero is = refl
drop-none [] (suc n) is = refl
drop-none (y ∷ ys) zero is = absurd cc
drop-none (y ∷ ys) (suc n) is = drop-none ys n is

drop-suc : {A : Type 0} (xs : List A) (n : ℕ) → drop (suc n) xs ≡ drop 1 (drop n xs)
drop-suc [] zero = refl
drop-suc [] (suc n) = refl
drop-suc (y ∷ ys) zero = refl
drop-suc (y ∷ ys) (suc n) = drop-suc ys n

pub drop-one : {A : Type 0} (xs : List A) (n : ℕ) → drop (n + 1) xs ≡ drop 1 (drop n xs)
drop-one xs n = ap (λ (k : ℕ). drop k xs) (add-one n) ∙ drop-suc xs n

pub drop-past : {A : Type 0} (xs : List A) (n : ℕ) → length xs ≤ n → drop n xs ≡ drop 1 (drop n xs)
drop-past [] zero le = refl
drop-past [] (suc n) le = refl
drop-past (y ∷ ys) zero le = absurd (omega (arith, le))
drop-past (y ∷ ys) (suc n) le = drop-past ys n (omega (arith, le))

-- ---- the script

lines-after : (l : ClientLine) (ahead : List ClientLine) (t : Talk) → (does l (past ahead t)).lines ≡ ahead
lines-after (line.Sleep ms) ahead t = refl
lines-after (line.Copy clip bytes) ahead t = refl
lines-after (line.Resize w h) ahead t = refl

-- the next line ran
pub ran_next : (old new : Talk) (l : ClientLine) → may_run old ≡ true → old.lines ≡ l ∷ drop 1 old.lines → new ≡ does l (past_one old) → RunsNext old new true
ran_next old new l may is new-is =
    let ahead : List ClientLine = drop 1 old.lines in
    let lines : new.lines ≡ ahead = ap (λ (t : Talk). t.lines) new-is ∙ lines-after l ahead old in
    let after : run_script new ≡ run_ahead ahead (does l (past ahead old)) = ap (λ (ls : List ClientLine). run_ahead ls new) lines ∙ ap (run_ahead ahead) new-is in
    let before : run_script old ≡ run_ahead ahead (does l (past ahead old)) =
    ap (λ (ls : List ClientLine). run_ahead ls old) is ∙ ap (λ (b : Bool). if b then run_ahead ahead (does l (past ahead old)) else old) may in
    (after ∙ sym before, omega (arith, ap (λ (ls : List ClientLine). length ls) lines, ap (λ (ls : List ClientLine). length ls) is))

-- none may run
pub none_may : (t : Talk) → may_run t ≡ false → RunsNext t t false
none_may t may = (refl, stays t.lines)
  where
    stays : (ls : List ClientLine) → run_ahead ls t ≡ t
    stays [] = refl
    stays (l ∷ ls) = ap (λ (b : Bool). if b then run_ahead ls (does l (past ls t)) else t) may

-- none is left
pub none_left : (t : Talk) → t.lines ≡ [] → RunsNext t t false
none_left t none = (refl, ap (λ (ls : List ClientLine). run_ahead ls t) none)
