-- Rules are functions from a state to the next one. These make larger rules of smaller ones.
use Rattle.std.specs.Prelude.{ℕ, zero, suc, Bool, true, false, List, [], ◌∷◌, Option, Some, None}

abbrev pub unchanged : {S : Type 0} → S → S
unchanged s = s

-- the rule where the test holds, and else nothing
abbrev pub when : {S : Type 0} → Bool → (S → S) → S → S
when true rule s = rule s
when false rule s = s

-- the one rule where the test holds, and else the other
abbrev pub choose : {S : Type 0} → Bool → (S → S) → (S → S) → S → S
choose true one other s = one s
choose false one other s = other s

-- the rule for what is there, and the other where nothing is
abbrev pub for_some : {A S : Type 0} → Option A → (A → S → S) → (S → S) → S → S
for_some (Some x) rule other s = rule x s
for_some None rule other s = other s

-- the rule for each of the list, in its order
abbrev pub for_each : {A S : Type 0} → List A → (A → S → S) → S → S
for_each [] rule s = s
for_each (x ∷ xs) rule s = for_each xs rule (rule x s)

-- the rule, that many times
abbrev pub times : {S : Type 0} → ℕ → (S → S) → S → S
times zero rule s = s
times (suc n) rule s = times n rule (rule s)
