-- Which targets are there, before and after a change.
use Rattle.std.specs.Prelude.{◌≡◌, refl, ℕ, ◌==◌, Bool, true, false, ◌||◌, ◌&&◌, List, [], ◌∷◌, Some}
use Rattle.std.specs.List.{list_any}
use Rattle.std.proofs.Common.{ap, ◌∙◌}
use Rattle.machine.specs.Combining.{when}
use Rattle.machine.specs.Targets.{Target, Primary, Client}
use Rattle.machine.specs.Connections.{Connection, has_serial, is_live, changed}
use Rattle.machine.specs.States.{State}
use Rattle.machine.specs.Screens.{lives, target_of}
use Rattle.machine.proofs.Live.{lives_as, IsLive, lives-live, target-live}
use Rattle.server_core.specs.Targets.{IsOpenIn, IsThere}

-- whoever lives is there
live_any : (n : ℕ) (cs : List Connection) → list_any (lives_as n) cs ≡ true → list_any (has_serial n) cs ≡ true
live_any n [] h = h
live_any n (c ∷ cs) h = by (has_serial n c) (is_live c) h (live_any n cs)
  where
    by : (a b : Bool) → ((a && b) || list_any (lives_as n) cs) ≡ true → (list_any (lives_as n) cs ≡ true → list_any (has_serial n) cs ≡ true) → (a || list_any (has_serial n) cs) ≡ true
    by true b h later = refl
    by false b h later = later h

pub live-open : (cs : List Connection) (t : Target) → IsLive cs t → IsOpenIn cs t
live-open cs Primary h = tt
live-open cs (Client n) h = live_any n cs h

pub lives-open : (s : State) (serial : ℕ) → lives s serial ≡ true → IsThere s (Client serial)
lives-open s serial h = live-open s.connections (Client serial) (lives-live serial s h)

pub target-open : (s : State) (screen : ℕ) (t : Target) → target_of s screen ≡ Some t → IsThere s t
target-open s screen t h = live-open s.connections t (target-live s screen t h)

-- a change that keeps serials leaves whoever is there
changed_any : (n serial : ℕ) (f : Connection → Connection) → ((c : Connection) → (f c).serial ≡ c.serial) → (cs : List Connection) → list_any (has_serial n) (changed serial f cs) ≡ list_any (has_serial n) cs
changed_any n serial f same [] = refl
changed_any n serial f same (c ∷ cs) = by (has_serial serial c) (changed_any n serial f same cs)
  where
    by : (b : Bool) → list_any (has_serial n) (changed serial f cs) ≡ list_any (has_serial n) cs → (((when b f c).serial == n) || list_any (has_serial n) (changed serial f cs)) ≡ ((c.serial == n) || list_any (has_serial n) cs)
    by true rest = ap (λ m. (m == n) || list_any (has_serial n) (changed serial f cs)) (same c) ∙ ap (λ b. (c.serial == n) || b) rest
    by false rest = ap (λ b. (c.serial == n) || b) rest

pub changed-open : (serial : ℕ) (f : Connection → Connection) → ((c : Connection) → (f c).serial ≡ c.serial) → (cs : List Connection) (t : Target) → IsOpenIn cs t → IsOpenIn (changed serial f cs) t
changed-open serial f same cs Primary h = tt
changed-open serial f same cs (Client n) h = changed_any n serial f same cs ∙ h
