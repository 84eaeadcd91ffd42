-- The screens that are joined, as a set.
use Rattle.std.specs.Prelude.{◌≡◌, refl, ℕ, ◌<◌, ◌≤◌, ◌+◌, Bool, true, false, ◌||◌, ◌==◌, List, [], ◌∷◌, drop, length, Option, Some, None}
use Rattle.std.specs.List.{list_any, filter_map, cons_option}
use Rattle.std.specs.Option.{option_map_or}
use Rattle.std.proofs.Common.{arith, sym, ap, ◌∙◌, get_or}
use Rattle.std.proofs.lemmas.List.{at_drop_more, at_drop_all}
use Rattle.hello_states.specs.Phases.{joined_screen}
use Rattle.machine.specs.Connections.{Connection}
use Rattle.machine.specs.States.{State}
use Rattle.machine.specs.Screens as screens
use Rattle.machine.specs.Screens.{screen_in, is_number, is_screen_joined}
use Rattle.connection_table.specs.declared.connection.Connection as kept
use Rattle.connection_table.specs.Tables as tables
use Rattle.connection_table.specs.Standing.{StandsFor, Pairs}
use Rattle.server_core.specs.declared.server.ServerCore.{ServerCore}
use Rattle.server_core.specs.Standing.{Beside, around, Stands}

-- a test of each holds of some of the kept ones where it holds of some of the machine's
pub pairs-any : (R : kept.Connection → Connection → Type 0) (t : kept.Connection → Bool) (u : Connection → Bool) → ((k : kept.Connection) (c : Connection) → R k c → t k ≡ u c) → (low : ℕ) (ks : List kept.Connection) (cs : List Connection) → Pairs R low ks cs → list_any t ks ≡ list_any u cs
pairs-any R t u agree low [] [] h = refl
pairs-any R t u agree low [] (c ∷ cs) h = absurd h
pairs-any R t u agree low (k ∷ ks) [] h = absurd h
pairs-any R t u agree low (k ∷ ks) (c ∷ cs) h = ap (λ a. a || list_any t ks) (agree k c h.1) ∙ ap (λ b. u c || b) (pairs-any R t u agree c.serial ks cs h.2)

among_joined : (n : ℕ) (cs : List Connection) → list_any (screens.is_joined_as n) cs ≡ list_any (is_number n) (filter_map screen_in cs)
among_joined n [] = refl
among_joined n (c ∷ cs) = by (screen_in c) (among_joined n cs)
  where
    by : (o : Option ℕ) → list_any (screens.is_joined_as n) cs ≡ list_any (is_number n) (filter_map screen_in cs) → (option_map_or (is_number n) o false || list_any (screens.is_joined_as n) cs) ≡ list_any (is_number n) (cons_option o (filter_map screen_in cs))
    by None e = e
    by (Some m) e = ap (λ b. (m == n) || b) e

or_more : (a b c : Bool) → ((a || b) || c) ≡ (a || (b || c))
or_more true b c = refl
or_more false b c = refl

-- a test of some that are left, after one more was added to those that passed it
pub one-more : {A : Type 0} (t : A → Bool) (xs : List A) (i : ℕ) (x : A) (old new all : Bool) → i < length xs → x ≡ get_or xs i x → new ≡ (old || t x) → (old || list_any t (drop i xs)) ≡ all → (new || list_any t (drop (i + 1) xs)) ≡ all
one-more t xs i x old new all lt is e h =
    ap (λ b. b || list_any t (drop (i + 1) xs)) e ∙ or_more old (t x) (list_any t (drop (i + 1) xs))
    ∙ ap (λ y. old || (t y || list_any t (drop (i + 1) xs))) is ∙ ap (λ b. old || b) (sym (at_drop_more (list_any t) xs i x lt)) ∙ h

pub none-more : {A : Type 0} (t : A → Bool) (xs : List A) (i : ℕ) (a all : Bool) → length xs ≤ i → (a || list_any t (drop i xs)) ≡ all → a ≡ all
none-more t xs i a all le h = sym (or_false a) ∙ ap (λ b. a || b) (sym (at_drop_all (list_any t) xs i le)) ∙ h
  where
    or_false : (a : Bool) → (a || false) ≡ a
    or_false true = refl
    or_false false = refl

pub same-number : (m n : ℕ) → (m == n) ≡ (n == m)
same-number m n = grind arith

pub set-joined : (b : Beside) (core : ServerCore) (s : State) (n primary : ℕ) → primary ≡ s.primary → Stands b core s → ((n == primary) || list_any (tables.is_joined_as n) core.table) ≡ is_screen_joined s n
set-joined b core s n primary is h =
    ap (λ m. (n == m) || list_any (tables.is_joined_as n) core.table) is
    ∙ ap (λ x. x || list_any (tables.is_joined_as n) core.table) (same-number n s.primary)
    ∙ ap (λ x. (s.primary == n) || x) (pairs-any (StandsFor (around b s)) (tables.is_joined_as n) (screens.is_joined_as n) (λ k c r. ap (λ p. option_map_or (is_number n) (joined_screen p) false) r.phase) 0 core.table s.connections h.connections ∙ among_joined n s.connections)
