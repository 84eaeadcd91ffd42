-- Connections that are kept one by one, where one of them changes.
use Rattle.std.specs.Prelude.{◌≡◌, refl, ℕ, suc, ◌<◌, ◌≤◌, ◌==◌, Bool, true, false, ◌&&◌, ◌||◌, cond, List, [], ◌∷◌, length, MatchBool, Option, Some, None}
use Rattle.std.specs.List.{find, list_any}
use Rattle.std.specs.Option.{option_map_or}
use Rattle.std.proofs.Common.{arith, sym, ap, ◌∙◌, subst}
use Rattle.machine.specs.Combining.{when}
use Rattle.machine.specs.Connections.{Connection, has_serial, is_live, changed}
use Rattle.connection_table.specs.declared.connection.Connection as kept
use Rattle.connection_table.specs.FirstOf.{FirstChanges}
use Rattle.connection_table.specs.Tables.{is_of}
use Rattle.connection_table.specs.Standing.{Pairs}

pub pairs-each : (R S : kept.Connection → Connection → Type 0) → ((k : kept.Connection) (c : Connection) → R k c → S k c) → (low : ℕ) (ks : List kept.Connection) (cs : List Connection) → Pairs R low ks cs → Pairs S low ks cs
pairs-each R S f low [] [] h = tt
pairs-each R S f low [] (c ∷ cs) h = h
pairs-each R S f low (k ∷ ks) [] h = h
pairs-each R S f low (k ∷ ks) (c ∷ cs) h = (h.0, f k c h.1, pairs-each R S f c.serial ks cs h.2)

-- another serial
other : (n low m : ℕ) → n ≤ low → low < m → (m == n) ≡ false
other n low m h l = grind arith

above : (n : ℕ) (R S : kept.Connection → Connection → Type 0) → ((k : kept.Connection) (c : Connection) → (c.serial == n) ≡ false → R k c → S k c) → (low : ℕ) (ks : List kept.Connection) (cs : List Connection) → n ≤ low → Pairs R low ks cs → Pairs S low ks cs
above n R S f low [] [] l h = tt
above n R S f low [] (c ∷ cs) l h = h
above n R S f low (k ∷ ks) [] l h = h
above n R S f low (k ∷ ks) (c ∷ cs) l h = (h.0, f k c (other n low c.serial l h.0) h.1, above n R S f c.serial ks cs (let lt = h.0 in omega arith) h.2)

-- the serials above stay
changed-above : (n : ℕ) (f : Connection → Connection) (R : kept.Connection → Connection → Type 0) (low : ℕ) (ks : List kept.Connection) (cs : List Connection) → n ≤ low → Pairs R low ks cs → changed n f cs ≡ cs
changed-above n f R low [] [] l h = refl
changed-above n f R low [] (c ∷ cs) l h = absurd h
changed-above n f R low (k ∷ ks) [] l h = refl
changed-above n f R low (k ∷ ks) (c ∷ cs) l h =
    let rest = changed-above n f R c.serial ks cs (let lt = h.0 in omega arith) h.2 in
    by (c.serial == n) (other n low c.serial l h.0) rest
  where
    by : (b : Bool) → b ≡ false → changed n f cs ≡ cs → when b f c ∷ changed n f cs ≡ c ∷ cs
    by true e rest = absurd (let x : ⊥ = cc in x)
    by false e rest = ap (λ ds. c ∷ ds) rest

equal : (m n : ℕ) → (m == n) ≡ true → m ≡ n
equal m n h = grind (arith, h)

-- the connection that is found is another one, and it stands for the machine's as before it stood for it
pub pairs-first : (n : ℕ) (R S : kept.Connection → Connection → Type 0) (C : kept.Connection → kept.Connection → Type 0) (found : Option Connection) → ((k : kept.Connection) (c : Connection) → R k c → k.serial ≡ c.serial) → ((k l : kept.Connection) (c : Connection) → found ≡ Some c → c.serial ≡ n → R k c → C k l → S l c) → ((k : kept.Connection) (c : Connection) → (c.serial == n) ≡ false → R k c → S k c) → (low : ℕ) (ks ls : List kept.Connection) (cs : List Connection) → find (has_serial n) cs ≡ found → Pairs R low ks cs → FirstChanges (is_of n) C ks ls → Pairs S low ls cs
pairs-first n R S C found same here else low [] [] [] e h g = tt
pairs-first n R S C found same here else low [] [] (c ∷ cs) e h g = h
pairs-first n R S C found same here else low [] (l ∷ ls) cs e h g = absurd g
pairs-first n R S C found same here else low (k ∷ ks) [] cs e h g = absurd g
pairs-first n R S C found same here else low (k ∷ ks) (l ∷ ls) [] e h g = absurd h
pairs-first n R S C found same here else low (k ∷ ks) (l ∷ ls) (c ∷ cs) e h g =
    by (c.serial == n) refl e (subst (λ m. MatchBool (m == n) (C k l × (ls ≡ ks)) ((l ≡ k) × FirstChanges (is_of n) C ks ls)) (same k c h.1) g) (λ f. pairs-first n R S C found same here else c.serial ks ls cs f h.2)
  where
    by : (b : Bool) → (c.serial == n) ≡ b → cond b (Some c) (find (has_serial n) cs) ≡ found → MatchBool b (C k l × (ls ≡ ks)) ((l ≡ k) × FirstChanges (is_of n) C ks ls) → (find (has_serial n) cs ≡ found → FirstChanges (is_of n) C ks ls → Pairs S c.serial ls cs) → Pairs S low (l ∷ ls) (c ∷ cs)
    by true t e g later =
        let is : c.serial ≡ n = equal c.serial n t in
        (h.0, here k l c (sym e) is h.1 g.0, subst (λ ds. Pairs S c.serial ds cs) (sym g.1) (above n R S else c.serial ks cs (omega arith) h.2))
    by false t e g later = (h.0, subst (λ d. S d c) (sym g.0) (else k c t h.1), later e g.1)

-- the connection of a serial changes, and so does the machine's
pub pairs-changed : (n : ℕ) (R S : kept.Connection → Connection → Type 0) (C : kept.Connection → kept.Connection → Type 0) (f : Connection → Connection) (found : Option Connection) → ((c : Connection) → (f c).serial ≡ c.serial) → ((k : kept.Connection) (c : Connection) → R k c → k.serial ≡ c.serial) → ((k l : kept.Connection) (c : Connection) → found ≡ Some c → R k c → C k l → S l (f c)) → ((k : kept.Connection) (c : Connection) → (c.serial == n) ≡ false → R k c → S k c) → (low : ℕ) (ks ls : List kept.Connection) (cs : List Connection) → find (has_serial n) cs ≡ found → Pairs R low ks cs → FirstChanges (is_of n) C ks ls → Pairs S low ls (changed n f cs)
pairs-changed n R S C f found stays same here else low [] [] [] e h g = tt
pairs-changed n R S C f found stays same here else low [] [] (c ∷ cs) e h g = absurd h
pairs-changed n R S C f found stays same here else low [] (l ∷ ls) cs e h g = absurd g
pairs-changed n R S C f found stays same here else low (k ∷ ks) [] cs e h g = absurd g
pairs-changed n R S C f found stays same here else low (k ∷ ks) (l ∷ ls) [] e h g = absurd h
pairs-changed n R S C f found stays same here else low (k ∷ ks) (l ∷ ls) (c ∷ cs) e h g =
    by (c.serial == n) refl e (subst (λ m. MatchBool (m == n) (C k l × (ls ≡ ks)) ((l ≡ k) × FirstChanges (is_of n) C ks ls)) (same k c h.1) g) (λ i. pairs-changed n R S C f found stays same here else c.serial ks ls cs i h.2)
  where
    by : (b : Bool) → (c.serial == n) ≡ b → cond b (Some c) (find (has_serial n) cs) ≡ found → MatchBool b (C k l × (ls ≡ ks)) ((l ≡ k) × FirstChanges (is_of n) C ks ls) → (find (has_serial n) cs ≡ found → FirstChanges (is_of n) C ks ls → Pairs S c.serial ls (changed n f cs)) → Pairs S low (l ∷ ls) (when b f c ∷ changed n f cs)
    by true t e g later =
        let is : c.serial ≡ n = equal c.serial n t in
        let rest : Pairs S c.serial ls cs = subst (λ ds. Pairs S c.serial ds cs) (sym g.1) (above n R S else c.serial ks cs (omega arith) h.2) in
        let behind : Pairs S c.serial ls (changed n f cs) = subst (λ ds. Pairs S c.serial ls ds) (sym (changed-above n f R c.serial ks cs (omega arith) h.2)) rest in
        (subst (λ m. low < m) (sym (stays c)) h.0, here k l c (sym e) h.1 g.0, subst (λ m. Pairs S m ls (changed n f cs)) (sym (stays c)) behind)
    by false t e g later = (h.0, subst (λ d. S d c) (sym g.0) (else k c t h.1), later e g.1)

-- what is found in the one list stands for what is found in the other
abbrev pub FoundPair : (kept.Connection → Connection → Type 0) → Option kept.Connection → Option Connection → Type 0
FoundPair R None None = Unit {0}
FoundPair R None (Some c) = ⊥
FoundPair R (Some k) None = ⊥
FoundPair R (Some k) (Some c) = R k c

pub pairs-find : (R : kept.Connection → Connection → Type 0) (t : kept.Connection → Bool) (u : Connection → Bool) → ((k : kept.Connection) (c : Connection) → R k c → t k ≡ u c) → (low : ℕ) (ks : List kept.Connection) (cs : List Connection) → Pairs R low ks cs → FoundPair R (find t ks) (find u cs)
pairs-find R t u agree low [] [] h = tt
pairs-find R t u agree low [] (c ∷ cs) h = absurd h
pairs-find R t u agree low (k ∷ ks) [] h = absurd h
pairs-find R t u agree low (k ∷ ks) (c ∷ cs) h = by (t k) (u c) (agree k c h.1) (pairs-find R t u agree c.serial ks cs h.2)
  where
    by : (a b : Bool) → a ≡ b → FoundPair R (find t ks) (find u cs) → FoundPair R (cond a (Some k) (find t ks)) (cond b (Some c) (find u cs))
    by true true e rest = h.1
    by true false e rest = absurd (let x : ⊥ = cc in x)
    by false true e rest = absurd (let x : ⊥ = cc in x)
    by false false e rest = rest

-- ---- who lives

abbrev pub lives_as : ℕ → Connection → Bool
lives_as n c = has_serial n c && is_live c

none_above : (n : ℕ) (R : kept.Connection → Connection → Type 0) (low : ℕ) (ks : List kept.Connection) (cs : List Connection) → n ≤ low → Pairs R low ks cs → list_any (lives_as n) cs ≡ false
none_above n R low [] [] l h = refl
none_above n R low [] (c ∷ cs) l h = absurd h
none_above n R low (k ∷ ks) [] l h = refl
none_above n R low (k ∷ ks) (c ∷ cs) l h = by (c.serial == n) (other n low c.serial l h.0) (none_above n R c.serial ks cs (let lt = h.0 in omega arith) h.2)
  where
    by : (b : Bool) → b ≡ false → list_any (lives_as n) cs ≡ false → ((b && is_live c) || list_any (lives_as n) cs) ≡ false
    by true e rest = absurd (let x : ⊥ = cc in x)
    by false e rest = rest

-- where one of that serial lives, the first of that serial does
pub live-first : (n : ℕ) (R : kept.Connection → Connection → Type 0) (low : ℕ) (ks : List kept.Connection) (cs : List Connection) → Pairs R low ks cs → list_any (lives_as n) cs ≡ true → option_map_or is_live (find (has_serial n) cs) false ≡ true
live-first n R low [] [] h e = e
live-first n R low [] (c ∷ cs) h e = absurd h
live-first n R low (k ∷ ks) [] h e = absurd h
live-first n R low (k ∷ ks) (c ∷ cs) h e = by (c.serial == n) refl e (live-first n R c.serial ks cs h.2)
  where
    by : (b : Bool) → (c.serial == n) ≡ b → ((b && is_live c) || list_any (lives_as n) cs) ≡ true → (list_any (lives_as n) cs ≡ true → option_map_or is_live (find (has_serial n) cs) false ≡ true) → option_map_or is_live (cond b (Some c) (find (has_serial n) cs)) false ≡ true
    by false t e later = later e
    by true t e later =
        let is : c.serial ≡ n = equal c.serial n t in
        let none : list_any (lives_as n) cs ≡ false = none_above n R c.serial ks cs (omega arith) h.2 in
        only (is_live c) (list_any (lives_as n) cs) none e
      where
        only : (a b : Bool) → b ≡ false → (a || b) ≡ true → a ≡ true
        only true b f e = refl
        only false b f e = sym f ∙ e

pub pairs-length : (R : kept.Connection → Connection → Type 0) (low : ℕ) (ks : List kept.Connection) (cs : List Connection) → Pairs R low ks cs → length ks ≡ length cs
pairs-length R low [] [] h = refl
pairs-length R low [] (c ∷ cs) h = absurd h
pairs-length R low (k ∷ ks) [] h = absurd h
pairs-length R low (k ∷ ks) (c ∷ cs) h = ap suc (pairs-length R c.serial ks cs h.2)
