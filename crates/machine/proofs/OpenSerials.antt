-- An invariant: the same connections are open, by their serials. Only acceptances and closings change which.
use Rattle.std.specs.Prelude.{◌≡◌, refl, ℕ, Bool, true, false, not, ◌==◌, cond, List, [], ◌∷◌, filter}
use Rattle.std.proofs.Common.{ap, ◌∙◌}
use Rattle.machine.specs.Connections.{Connection, has_serial, changed, removed, serials}
use Rattle.machine.specs.Combining.{when}
use Rattle.machine.specs.Partings.{parted}
use Rattle.machine.specs.Steps.{drops}
use Rattle.machine.proofs.Live.{IsTame, parted-tame, drops-tame}
use Rattle.machine.proofs.Invariant.{View, IsInvariant}
use Rattle.machine.proofs.AnyButton.{any, any_origin, of-connections}

abbrev pub HasSerials : List ℕ → View → Type 0
HasSerials those v = serials v.connections ≡ those

pub changed-serials : (serial : ℕ) (f : Connection → Connection) → IsTame f → (cs : List Connection) → serials (changed serial f cs) ≡ serials cs
changed-serials serial f tame [] = refl
changed-serials serial f tame (c ∷ cs) = at (has_serial serial c) (changed-serials serial f tame cs)
  where
    at : (b : Bool) → serials (changed serial f cs) ≡ serials cs → ((when b f c).serial ∷ serials (changed serial f cs)) ≡ c.serial ∷ serials cs
    at true rest = let here : (f c).serial ≡ c.serial = (tame c).0 in cc
    at false rest = cc

pub invariant : (those : List ℕ) → IsInvariant any any_origin (HasSerials those)
invariant those = of-connections (λ cs. serials cs ≡ those)
    (λ serial f tame same none cs h. changed-serials serial f tame cs ∙ h)
    (λ cause serial now cs on h. changed-serials serial (parted cause now) (parted-tame cause now) cs ∙ h)
    (λ serial s off h. changed-serials serial drops drops-tame s.connections ∙ h)

pub removed-serials : (serial : ℕ) (cs : List Connection) → serials (removed serial cs) ≡ filter (λ n. not (n == serial)) (serials cs)
removed-serials serial [] = refl
removed-serials serial (c ∷ cs) = at (not (c.serial == serial)) (removed-serials serial cs)
  where
    at : (b : Bool) → serials (removed serial cs) ≡ filter (λ n. not (n == serial)) (serials cs) → serials (cond b (c ∷ removed serial cs) (removed serial cs)) ≡ cond b (c.serial ∷ filter (λ n. not (n == serial)) (serials cs)) (filter (λ n. not (n == serial)) (serials cs))
    at true rest = ap (λ (ns : List ℕ). c.serial ∷ ns) rest
    at false rest = rest
