-- What smaller rules keep, a rule made of them keeps.
use Rattle.std.specs.Prelude.{◌≡◌, ℕ, zero, suc, Bool, true, false, List, [], ◌∷◌, Option, Some, None}
use Rattle.std.specs.List.{list_all}
use Rattle.std.proofs.Common.{arith}
use Rattle.std.proofs.lemmas.Bool.{and_parts}
use Rattle.machine.specs.Combining.{when, choose, for_some, for_each, times}

pub when-keeps : {S : Type 0} (P : S → Type 0) (b : Bool) (rule : S → S) → ((s : S) → P s → P (rule s)) → (s : S) → P s → P (when b rule s)
when-keeps P true rule k s h = k s h
when-keeps P false rule k s h = h

-- where the test itself says that the rule keeps it
pub when-keeps-if : {S : Type 0} (P : S → Type 0) (b : Bool) (rule : S → S) (s : S) → (b ≡ true → P (rule s)) → P s → P (when b rule s)
when-keeps-if P true rule s k h = k (grind arith)
when-keeps-if P false rule s k h = h

pub choose-keeps : {S : Type 0} (P : S → Type 0) (b : Bool) (one other : S → S) (s : S) → (b ≡ true → P (one s)) → (b ≡ false → P (other s)) → P (choose b one other s)
choose-keeps P true one other s k l = k (grind arith)
choose-keeps P false one other s k l = l (grind arith)

pub for_some-keeps : {A S : Type 0} (P : S → Type 0) (o : Option A) (rule : A → S → S) (other : S → S) (s : S) → ((x : A) → o ≡ Some x → P (rule x s)) → P (other s) → P (for_some o rule other s)
for_some-keeps P (Some x) rule other s k h = k x (grind arith)
for_some-keeps P None rule other s k h = h

pub for_each-keeps : {A S : Type 0} (P : S → Type 0) (xs : List A) (rule : A → S → S) → ((x : A) (s : S) → P s → P (rule x s)) → (s : S) → P s → P (for_each xs rule s)
for_each-keeps P [] rule k s h = h
for_each-keeps P (x ∷ xs) rule k s h = for_each-keeps P xs rule k (rule x s) (k x s h)

-- where each passes a test under which the rule keeps it
pub for_passing-keeps : {A S : Type 0} (P : S → Type 0) (test : A → Bool) (xs : List A) (rule : A → S → S) → ((x : A) → test x ≡ true → (s : S) → P s → P (rule x s)) → list_all test xs ≡ true → (s : S) → P s → P (for_each xs rule s)
for_passing-keeps P test [] rule k t s h = h
for_passing-keeps P test (x ∷ xs) rule k t s h = let b = and_parts (test x) (list_all test xs) t in for_passing-keeps P test xs rule k b.1 (rule x s) (k x b.0 s h)

pub times-keeps : {S : Type 0} (P : S → Type 0) (n : ℕ) (rule : S → S) → ((s : S) → P s → P (rule s)) → (s : S) → P s → P (times n rule s)
times-keeps P zero rule k s h = h
times-keeps P (suc n) rule k s h = times-keeps P n rule k (rule s) (k s h)
