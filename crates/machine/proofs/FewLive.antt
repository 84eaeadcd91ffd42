-- How many connections live: no rule makes more of them live, and each parting makes one less.
use Rattle.std.specs.Prelude.{◌≡◌, refl, ℕ, ◌+◌, ◌<◌, ◌≤◌, Bool, true, false, ◌||◌, cond, List, [], ◌∷◌, length}
use Rattle.std.specs.List.{list_any}
use Rattle.std.proofs.Common.{arith}
use Rattle.std.proofs.lemmas.Bool.{and_parts}
use Rattle.hello_states.specs.declared.part_cause.PartCause.{PartCause}
use Rattle.machine.specs.Connections.{Connection, has_serial, is_live, changed}
use Rattle.machine.specs.Combining.{when}
use Rattle.machine.specs.Partings.{parted}
use Rattle.machine.specs.Steps.{drops}
use Rattle.machine.proofs.Live.{lives_as, IsTame, parted-tame, drops-tame}
use Rattle.machine.proofs.Invariant.{View, IsInvariant}
use Rattle.machine.proofs.AnyButton.{any, any_origin, of-connections}

unfoldable pub live_count : List Connection → ℕ
live_count [] = 0
live_count (c ∷ cs) = cond (is_live c) 1 0 + live_count cs

pub count-upto : (cs : List Connection) → live_count cs ≤ length cs
unfolding live_count
count-upto [] = omega arith
count-upto (c ∷ cs) = by (is_live c) (count-upto cs)
  where
    by : (b : Bool) → live_count cs ≤ length cs → cond b 1 0 + live_count cs ≤ length (c ∷ cs)
    by true k = omega arith
    by false k = omega arith

weight_fewer : (f : Connection → Connection) → IsTame f → (b : Bool) (c : Connection) → cond (is_live (when b f c)) 1 0 ≤ cond (is_live c) 1 0
weight_fewer f tame false c = omega arith
weight_fewer f tame true c = by (is_live (f c)) refl (is_live c) refl
  where
    by : (now : Bool) → is_live (f c) ≡ now → (was : Bool) → is_live c ≡ was → cond now 1 0 ≤ cond was 1 0
    by false e was k = omega arith
    by true e true k = omega arith
    by true e false k = let live = (tame c).1 e in grind (arith, live, k)

pub changed-fewer : (serial : ℕ) (f : Connection → Connection) → IsTame f → (cs : List Connection) → live_count (changed serial f cs) ≤ live_count cs
unfolding live_count
changed-fewer serial f tame [] = omega arith
changed-fewer serial f tame (c ∷ cs) = let here = weight_fewer f tame (has_serial serial c) c in let rest = changed-fewer serial f tame cs in omega arith

abbrev pub FewLive : ℕ → View → Type 0
FewLive n v = live_count v.connections ≤ n

pub invariant : (n : ℕ) → IsInvariant any any_origin (FewLive n)
invariant n = of-connections (λ cs. live_count cs ≤ n)
    (λ serial f tame same none cs h. let less = changed-fewer serial f tame cs in omega arith)
    (λ cause serial now cs on h. let less = changed-fewer serial (parted cause now) (parted-tame cause now) cs in omega arith)
    (λ serial s off h. let less = changed-fewer serial drops drops-tame s.connections in omega arith)

-- ---- a parting

-- where one of that serial lived, one less lives
pub parted-fewer : (serial : ℕ) (cause : PartCause) (now : ℕ) (cs : List Connection) → list_any (lives_as serial) cs ≡ true → live_count (changed serial (parted cause now) cs) < live_count cs
unfolding live_count
parted-fewer serial cause now [] h = grind (arith, h)
parted-fewer serial cause now (c ∷ cs) h =
    by (lives_as serial c) refl h (changed-fewer serial (parted cause now) (λ d. (refl, λ e. grind (arith, e))) cs) (parted-fewer serial cause now cs) (weight_fewer (parted cause now) (λ d. (refl, λ e. grind (arith, e))) (has_serial serial c) c)
  where
    by : (b : Bool) → lives_as serial c ≡ b → (b || list_any (lives_as serial) cs) ≡ true → live_count (changed serial (parted cause now) cs) ≤ live_count cs → (list_any (lives_as serial) cs ≡ true → live_count (changed serial (parted cause now) cs) < live_count cs) → cond (is_live (when (has_serial serial c) (parted cause now) c)) 1 0 ≤ cond (is_live c) 1 0 → cond (is_live (when (has_serial serial c) (parted cause now) c)) 1 0 + live_count (changed serial (parted cause now) cs) < cond (is_live c) 1 0 + live_count cs
    by true e k less later here = let parts = and_parts (has_serial serial c) (is_live c) e in rw (parts.0, parts.1) (omega arith)
    by false e k less later here = let rest = later k in omega arith
