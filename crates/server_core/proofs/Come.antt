-- A timer that has come for a connection, or hasn't.
use Rattle.std.specs.Prelude.{◌≡◌, refl, ℕ, true, false, not, Option, Some, None}
use Rattle.std.specs.Option.{option_map_or}
use Rattle.std.proofs.Common.{ap}
use Rattle.hello_states.specs.Phases.{Phase, Greeting, Asked, Joined, Parting, is_parting, is_dead_in, is_silent, is_beat_due_in}
use Rattle.machine.specs.Connections.{Connection, is_live}
use Rattle.machine.specs.States.{State}
use Rattle.machine.specs.Combining.{when, for_some, unchanged}
use Rattle.machine.specs.Screens.{connection, lives}
use Rattle.machine.specs.Slow.{part_slow}
use Rattle.server_core.specs.declared.timers.Timer.{Timer}
use Rattle.server_core.specs.declared.timers.Timer.TheVariants as timer
use Rattle.server_core.specs.Timing.{test_of, rule_of, has_come, for_one}

-- ---- the connection lives

dead_live : (p : Phase) (now : ℕ) → is_dead_in p now ≡ true → not (is_parting p) ≡ true
dead_live (Greeting a) now h = refl
dead_live (Asked a) now h = refl
dead_live (Joined j) now h = refl
dead_live (Parting c m) now h = absurd (let x : ⊥ = cc in x)

silent_live : (p : Phase) (now : ℕ) → is_silent p now ≡ true → not (is_parting p) ≡ true
silent_live (Greeting a) now h = refl
silent_live (Asked a) now h = refl
silent_live (Joined j) now h = refl
silent_live (Parting c m) now h = absurd (let x : ⊥ = cc in x)

due_live : (p : Phase) (now : ℕ) → is_beat_due_in p now ≡ true → not (is_parting p) ≡ true
due_live (Greeting a) now h = refl
due_live (Asked a) now h = refl
due_live (Joined j) now h = refl
due_live (Parting c m) now h = absurd (let x : ⊥ = cc in x)

test_live : (t : Timer) (s : State) (c : Connection) → test_of t s c ≡ true → is_live c ≡ true
test_live timer.Death s c h = dead_live c.phase s.at h
test_live timer.Silence s c h = silent_live c.phase s.at h
test_live timer.Beat s c h = due_live c.phase s.at h

pub come-lives : (t : Timer) (serial : ℕ) (s : State) → has_come t serial s ≡ true → lives s serial ≡ true
come-lives t serial s h = by (connection s serial) h
  where
    by : (o : Option Connection) → option_map_or (test_of t s) o false ≡ true → option_map_or is_live o false ≡ true
    by None h = h
    by (Some c) h = test_live t s c h

-- ---- what it does

pub come-one : (t : Timer) (serial : ℕ) (s : State) → has_come t serial s ≡ true → for_one t serial s ≡ part_slow (rule_of t serial s)
come-one t serial s h = by (connection s serial) h
  where
    by : (o : Option Connection) → option_map_or (test_of t s) o false ≡ true → for_some o (λ c. when (test_of t s c) (λ u. part_slow (rule_of t serial u))) unchanged s ≡ part_slow (rule_of t serial s)
    by None h = absurd (let x : ⊥ = cc in x)
    by (Some c) h = ap (λ b. when b (λ u. part_slow (rule_of t serial u)) s) h

pub not-come-one : (t : Timer) (serial : ℕ) (s : State) → has_come t serial s ≡ false → for_one t serial s ≡ s
not-come-one t serial s h = by (connection s serial) h
  where
    by : (o : Option Connection) → option_map_or (test_of t s) o false ≡ false → for_some o (λ c. when (test_of t s c) (λ u. part_slow (rule_of t serial u))) unchanged s ≡ s
    by None h = refl
    by (Some c) h = ap (λ b. when b (λ u. part_slow (rule_of t serial u)) s) h
