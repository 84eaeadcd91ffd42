-- The rule that took a button, after another was taken and after one was released.
use Rattle.std.proofs.Common.{◌≡◌, ℕ, ◌≢◌, Bool, true, false, not, List, [], ◌∷◌, Option, None, Some, refl, sym, ap, ◌∙◌, arith, cond}
use Rattle.std.specs.Prelude.{◌==◌}
use Rattle.std.specs.List.{find}
use Rattle.std.specs.Option.{option_map}
use Rattle.std.proofs.lemmas.Bool.Decides.{nat_tests}
use Rattle.share_base.specs.declared.numbers.RuleNo.{RuleNo}
use Rattle.machine.specs.Routes.{taking}
use Rattle.machine.specs.Events.{released}

pub same_test : (a b : ℕ) → a ≡ b → (a == b) ≡ true
same_test a b e = grind (arith, nat_tests)

pub other_test : (a b : ℕ) → a ≢ b → (a == b) ≡ false
other_test a b ne = grind (arith, nat_tests)

pub equal : (a b : ℕ) → (a == b) ≡ true → a ≡ b
equal a b e = grind (arith, nat_tests)

-- the rule of the first entry, where the test finds it, and else that of another
abbrev picked : Bool → ℕ × RuleNo → Option (ℕ × RuleNo) → Option RuleNo
picked test first other = option_map (λ (t : ℕ × RuleNo). t.1) (cond test (Some first) other)

abbrev found : ℕ → List (ℕ × RuleNo) → Option (ℕ × RuleNo)
found n taken = find (λ (t : ℕ × RuleNo). t.0 == n) taken

-- ---- taken

pub taken_here : (k : ℕ) (rule : RuleNo) (taken : List (ℕ × RuleNo)) → taking ((k, rule) ∷ taken) k ≡ Some rule
taken_here k rule taken = ap (λ (test : Bool). picked test (k, rule) (found k taken)) (same_test k k refl)

pub taken_elsewhere : (k n : ℕ) (rule : RuleNo) (taken : List (ℕ × RuleNo)) → n ≢ k → taking ((k, rule) ∷ taken) n ≡ taking taken n
taken_elsewhere k n rule taken ne = ap (λ (test : Bool). picked test (k, rule) (found n taken)) (other_test k n (λ e. ne (sym e)))

-- ---- released

pub released_here : (k : ℕ) (taken : List (ℕ × RuleNo)) → taking (released k taken) k ≡ None
released_here k [] = refl
released_here k (t ∷ ts) = by (released_here k ts) (t.0 == k) refl
  where
    by : taking (released k ts) k ≡ None → (b : Bool) → (t.0 == k) ≡ b → taking (cond (not b) (t ∷ released k ts) (released k ts)) k ≡ None
    by rest true e = rest
    by rest false e = ap (λ (test : Bool). picked test t (found k (released k ts))) e ∙ rest

pub released_elsewhere : (k n : ℕ) (taken : List (ℕ × RuleNo)) → n ≢ k → taking (released k taken) n ≡ taking taken n
released_elsewhere k n [] ne = refl
released_elsewhere k n (t ∷ ts) ne = by (released_elsewhere k n ts ne) (t.0 == k) refl
  where
    both : taking (released k ts) n ≡ taking ts n → (test : Bool) → picked test t (found n (released k ts)) ≡ picked test t (found n ts)
    both rest true = refl
    both rest false = rest

    by : taking (released k ts) n ≡ taking ts n → (b : Bool) → (t.0 == k) ≡ b → taking (cond (not b) (t ∷ released k ts) (released k ts)) n ≡ taking (t ∷ ts) n
    by rest true e = rest ∙ sym (ap (λ (test : Bool). picked test t (found n ts)) (other_test t.0 n (λ same. ne (sym same ∙ equal t.0 k e))))
    by rest false e = both rest (t.0 == n)
