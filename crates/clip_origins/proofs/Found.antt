-- The connection that is found by its serial, after another one changed, came or went.
use Rattle.std.specs.Prelude.{◌≡◌, refl, ℕ, Bool, true, false, cond, not, ◌==◌, List, [], ◌∷◌, ◌++◌, Option, Some, None}
use Rattle.std.specs.Option.{option_map}
use Rattle.std.proofs.Common.{arith, ap, sym, subst, ◌∙◌}
use Rattle.std.proofs.lemmas.Bool.Decides.{nat_tests}
use Rattle.machine.specs.Connections.{Connection, has_serial, with_serial, changed, changed_at, removed}
use Rattle.machine.specs.Combining.{when}
use Rattle.machine.proofs.Finding.{none_some, some_is, found-passes}
use Rattle.machine.proofs.TakenStays.{none-left}

abbrev pub SameSerial : (Connection → Connection) → Type 0
SameSerial f = (c : Connection) → (f c).serial ≡ c.serial

same_serial : (n serial : ℕ) (f : Connection → Connection) → SameSerial f → (d : Connection) → has_serial n (changed_at serial f d) ≡ has_serial n d
same_serial n serial f same d = by (has_serial serial d)
  where
    by : (b : Bool) → has_serial n (when b f d) ≡ has_serial n d
    by true = ap (λ (m : ℕ). m == n) (same d)
    by false = refl

pub found-changed : (n serial : ℕ) (f : Connection → Connection) → SameSerial f → (cs : List Connection) → with_serial n (changed serial f cs) ≡ option_map (changed_at serial f) (with_serial n cs)
found-changed n serial f same [] = refl
found-changed n serial f same (d ∷ cs) = by (has_serial n d) (same_serial n serial f same d) (found-changed n serial f same cs)
  where
    by : (b : Bool) → has_serial n (changed_at serial f d) ≡ b → with_serial n (changed serial f cs) ≡ option_map (changed_at serial f) (with_serial n cs)
        → cond (has_serial n (changed_at serial f d)) (Some (changed_at serial f d)) (with_serial n (changed serial f cs)) ≡ option_map (changed_at serial f) (cond b (Some d) (with_serial n cs))
    by true e rest = ap (λ (t : Bool). cond t (Some (changed_at serial f d)) (with_serial n (changed serial f cs))) e
    by false e rest = ap (λ (t : Bool). cond t (Some (changed_at serial f d)) (with_serial n (changed serial f cs))) e ∙ rest

-- what is found after the change was found before it
pub record WasFound (n serial : ℕ) (f : Connection → Connection) (cs : List Connection) (c : Connection) : Type 0 where
  pub was : Connection
  pub found : with_serial n cs ≡ Some was
  pub now : c ≡ changed_at serial f was

pub was-found : (n serial : ℕ) (f : Connection → Connection) → SameSerial f → (cs : List Connection) (c : Connection) → with_serial n (changed serial f cs) ≡ Some c → WasFound n serial f cs c
was-found n serial f same cs c e = by (with_serial n cs) refl (sym (found-changed n serial f same cs) ∙ e)
  where
    by : (o : Option Connection) → with_serial n cs ≡ o → option_map (changed_at serial f) o ≡ Some c → WasFound n serial f cs c
    by None k is = none_some c is
    by (Some d) k is = record { was = d; found = k; now = sym (some_is (changed_at serial f d) c is) }

-- at the connection itself
pub itself : (n : ℕ) (f : Connection → Connection) (cs : List Connection) (c : Connection) → with_serial n cs ≡ Some c → changed_at n f c ≡ f c
itself n f cs c e = ap (λ (b : Bool). when b f c) (found-passes (has_serial n) cs c e)

pub found-itself : (n : ℕ) (f : Connection → Connection) → SameSerial f → (cs : List Connection) (c : Connection) → with_serial n cs ≡ Some c → with_serial n (changed n f cs) ≡ Some (f c)
found-itself n f same cs c e = found-changed n n f same cs ∙ (ap (option_map (changed_at n f)) e ∙ ap Some (itself n f cs c e))

-- and at any other one
pub another : (n serial : ℕ) (f : Connection → Connection) (cs : List Connection) (c : Connection) → (serial == n) ≡ false → with_serial n cs ≡ Some c → changed_at serial f c ≡ c
another n serial f cs c other e =
    let is : (c.serial == n) ≡ true = found-passes (has_serial n) cs c e in
    let no : has_serial serial c ≡ false = apart c.serial is in
    ap (λ (b : Bool). when b f c) no
  where
    apart : (m : ℕ) → (m == n) ≡ true → (m == serial) ≡ false
    apart m is = grind (arith, nat_tests, is, other)

-- ---- new and closed ones

pub found-appended : (n : ℕ) (d : Connection) (R : Connection → Type 0) → (has_serial n d ≡ true → R d) → (cs : List Connection) → ((c : Connection) → with_serial n cs ≡ Some c → R c) → (c : Connection) → with_serial n (cs ++ d ∷ []) ≡ Some c → R c
found-appended n d R new [] h c e = by (has_serial n d) refl e
  where
    by : (b : Bool) → has_serial n d ≡ b → cond b (Some d) None ≡ Some c → R c
    by true is k = subst R (some_is d c k) (new is)
    by false is k = none_some c k
found-appended n d R new (x ∷ cs) h c e = by (has_serial n x) h (found-appended n d R new cs) e
  where
    by : (b : Bool) → ((k : Connection) → cond b (Some x) (with_serial n cs) ≡ Some k → R k) → (((k : Connection) → with_serial n cs ≡ Some k → R k) → (k : Connection) → with_serial n (cs ++ d ∷ []) ≡ Some k → R k)
        → cond b (Some x) (with_serial n (cs ++ d ∷ [])) ≡ Some c → R c
    by true here later k = here c k
    by false here later k = later here c k

pub same_number : (m n k : ℕ) → (m == n) ≡ true → (m == k) ≡ true → n ≡ k
same_number m n k a b = grind (arith, nat_tests, a, b)

pub found-removed : (n serial : ℕ) (R : Connection → Type 0) (cs : List Connection) → ((c : Connection) → with_serial n cs ≡ Some c → R c) → (c : Connection) → with_serial n (removed serial cs) ≡ Some c → R c
found-removed n serial R [] h c e = h c e
found-removed n serial R (d ∷ cs) h c e = by (has_serial serial d) (has_serial n d) refl refl h (found-removed n serial R cs) e
  where
    by : (b t : Bool) → has_serial serial d ≡ b → has_serial n d ≡ t → ((k : Connection) → cond t (Some d) (with_serial n cs) ≡ Some k → R k)
        → (((k : Connection) → with_serial n cs ≡ Some k → R k) → (k : Connection) → with_serial n (removed serial cs) ≡ Some k → R k)
        → with_serial n (cond (not b) (d ∷ removed serial cs) (removed serial cs)) ≡ Some c → R c
    by false true one k here later e = here c (ap (λ (t : Bool). cond t (Some d) (with_serial n (removed serial cs))) (sym k) ∙ e)
    by false false one k here later e = later here c (ap (λ (t : Bool). cond t (Some d) (with_serial n (removed serial cs))) (sym k) ∙ e)
    by true false one k here later e = later here c e
    by true true one k here later e =
        let is : serial ≡ n = same_number d.serial serial n one k in
        none_some c (sym (none-left n cs) ∙ subst (λ (m : ℕ). with_serial n (removed m cs) ≡ Some c) is e)
