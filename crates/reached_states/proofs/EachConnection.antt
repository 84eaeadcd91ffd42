-- A test that each connection passes, after one of them changed and after some were removed.
use Rattle.std.specs.Prelude.{◌≡◌, refl, ℕ, Bool, true, false, ◌||◌, cond, List, [], ◌∷◌, filter}
use Rattle.std.specs.List.{list_all}
use Rattle.std.proofs.lemmas.Bool.{and_parts, and_from}
use Rattle.machine.specs.Connections.{Connection, has_serial, changed, changed_at}
use Rattle.machine.specs.Combining.{when}

pub or-true : (a : Bool) → (a || true) ≡ true
or-true true = refl
or-true false = refl

pub each-kept : (test : Connection → Bool) (f : Connection → Connection) (serial : ℕ) → ((c : Connection) → test c ≡ true → test (f c) ≡ true) → (cs : List Connection) → list_all test cs ≡ true → list_all test (changed serial f cs) ≡ true
each-kept test f serial k [] h = refl
each-kept test f serial k (c ∷ cs) h =
    let parts = and_parts (test c) (list_all test cs) h in
    and_from (test (changed_at serial f c)) (list_all test (changed serial f cs)) (at (has_serial serial c) parts.0) (each-kept test f serial k cs parts.1)
  where
    at : (b : Bool) → test c ≡ true → test (when b f c) ≡ true
    at true e = k c e
    at false e = e

pub all-fewer : (test keep : Connection → Bool) (cs : List Connection) → list_all test cs ≡ true → list_all test (filter keep cs) ≡ true
all-fewer test keep [] h = refl
all-fewer test keep (c ∷ cs) h = let parts = and_parts (test c) (list_all test cs) h in at (keep c) parts.0 (all-fewer test keep cs parts.1)
  where
    at : (b : Bool) → test c ≡ true → list_all test (filter keep cs) ≡ true → list_all test (cond b (c ∷ filter keep cs) (filter keep cs)) ≡ true
    at true here rest = and_from (test c) (list_all test (filter keep cs)) here rest
    at false here rest = rest
