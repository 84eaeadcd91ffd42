-- Connections of which one was removed.
use Rattle.std.specs.Prelude.{◌≡◌, ℕ, ◌<◌, ◌==◌, Bool, true, false, not, cond, List, [], ◌∷◌}
use Rattle.std.proofs.Common.{arith, ap}
use Rattle.machine.specs.Connections.{Connection, removed}
use Rattle.connection_table.specs.declared.connection.Connection as kept
use Rattle.connection_table.specs.Tables.{without}
use Rattle.connection_table.specs.Standing.{Surroundings, StandsFor, Pairs, AreFor}

-- from a lower serial
lowered : (R : kept.Connection → Connection → Type 0) (low high : ℕ) (ks : List kept.Connection) (cs : List Connection) → low < high → Pairs R high ks cs → Pairs R low ks cs
lowered R low high [] [] l h = tt
lowered R low high [] (c ∷ cs) l h = h
lowered R low high (k ∷ ks) [] l h = h
lowered R low high (k ∷ ks) (c ∷ cs) l h = ((let up = h.0 in omega arith), h.1, h.2)

removed_in : (n : ℕ) (R : kept.Connection → Connection → Type 0) → ((k : kept.Connection) (c : Connection) → R k c → k.serial ≡ c.serial) → (low : ℕ) (ks : List kept.Connection) (cs : List Connection) → Pairs R low ks cs → Pairs R low (without n ks) (removed n cs)
removed_in n R same low [] [] h = tt
removed_in n R same low [] (c ∷ cs) h = absurd h
removed_in n R same low (k ∷ ks) [] h = absurd h
removed_in n R same low (k ∷ ks) (c ∷ cs) h = by (k.serial == n) (c.serial == n) (ap (λ m. m == n) (same k c h.1)) (removed_in n R same c.serial ks cs h.2)
  where
    by : (a b : Bool) → a ≡ b → Pairs R c.serial (without n ks) (removed n cs) → Pairs R low (cond (not a) (k ∷ without n ks) (without n ks)) (cond (not b) (c ∷ removed n cs) (removed n cs))
    by true true e rest = lowered R low c.serial (without n ks) (removed n cs) h.0 rest
    by true false e rest = absurd (let x : ⊥ = cc in x)
    by false true e rest = absurd (let x : ⊥ = cc in x)
    by false false e rest = (h.0, h.1, rest)

pub are-removed : (a : Surroundings) (n : ℕ) (ks : List kept.Connection) (cs : List Connection) → AreFor a ks cs → AreFor a (without n ks) (removed n cs)
are-removed a n ks cs h = removed_in n (StandsFor a) (λ k c r. r.serial) 0 ks cs h
