-- Connections that are kept one by one, at a place.
use Rattle.std.specs.Prelude.{◌≡◌, refl, ℕ, ◌+◌, ◌<◌, zero, suc, List, [], ◌∷◌, ◌++◌, length, take}
use Rattle.std.proofs.Common.{arith, sym, ap, subst, get_or, add-one}
use Rattle.machine.specs.Connections.{Connection}
use Rattle.connection_table.specs.declared.connection.Connection as kept
use Rattle.connection_table.specs.Standing.{Pairs}

-- the machine's connection at the place of the kept one
pub record PairAt (R : kept.Connection → Connection → Type 0) (k : kept.Connection) (place : ℕ) (cs : List Connection) : Type 0 where
  pub found : Connection
  pub stands : R k found
  pub next : take (place + 1) cs ≡ take place cs ++ found ∷ []
  pub rest : List Connection
  pub whole : cs ≡ take place cs ++ found ∷ rest

pub pair-at-place : (R : kept.Connection → Connection → Type 0) (low : ℕ) (ks : List kept.Connection) (cs : List Connection) (place : ℕ) (k : kept.Connection) → Pairs R low ks cs → place < length ks → k ≡ get_or ks place k → PairAt R k place cs
pair-at-place R low [] cs place k h l e = absurd (let x : ⊥ = omega arith in x)
pair-at-place R low (k ∷ ks) [] place l h lt e = absurd h
pair-at-place R low (k ∷ ks) (c ∷ cs) zero l h lt e = record { found = c; stands = subst (λ d. R d c) (sym e) h.1; next = refl; rest = cs; whole = refl }
pair-at-place R low (k ∷ ks) (c ∷ cs) (suc place) l h lt e =
    let later : PairAt R l place cs = pair-at-place R c.serial ks cs place l h.2 (omega arith) e in
    record {
      found = later.found;
      stands = later.stands;
      next = subst (λ n. take n (c ∷ cs) ≡ c ∷ (take place cs ++ later.found ∷ [])) (sym (add-one (suc place))) (ap (λ ds. c ∷ ds) (subst (λ n. take n cs ≡ take place cs ++ later.found ∷ []) (add-one place) later.next));
      rest = later.rest;
      whole = ap (λ ds. c ∷ ds) later.whole;
    }
