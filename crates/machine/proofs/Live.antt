-- Targets that live: the primary, and clients whose connection isn't parting.
use Rattle.std.specs.Prelude.{◌≡◌, ℕ, Bool, true, false, not, ◌&&◌, ◌||◌, ◌==◌, cond, List, [], ◌∷◌, filter, ◌⊎◌, Option, Some, None, if◌then◌else◌}
use Rattle.std.specs.List.{list_any, find, filter_map, cons_option}
use Rattle.std.specs.Option.{option_map, option_map_or}
use Rattle.std.proofs.Common.{arith, sym, ap, ◌∙◌, subst, inr, refl}
use Rattle.hello_states.specs.declared.part_cause.PartCause.{PartCause}
use Rattle.hello_states.specs.Phases.{Phase, Greeting, Asked, Joined, Parting, is_parting, joined_screen}
use Rattle.machine.specs.Targets.{Target, Primary, Client}
use Rattle.machine.specs.Connections.{Connection, has_serial, with_serial, is_live, changed_at, changed, removed}
use Rattle.machine.specs.States.{State}
use Rattle.machine.specs.Combining.{when}
use Rattle.machine.specs.Partings.{parted}
use Rattle.machine.specs.Steps.{drops}
use Rattle.machine.specs.Screens.{connection, phase_of, lives, screen_in, is_number, is_joined_as, client_as, target_of, joined_clients}
use Rattle.machine.proofs.Finding.{none_some, some_is, found-passes, found-any}

abbrev pub lives_as : ℕ → Connection → Bool
lives_as n c = has_serial n c && is_live c

abbrev pub IsLive : List Connection → Target → Type 0
IsLive connections Primary = Unit {0}
IsLive connections (Client n) = list_any (lives_as n) connections ≡ true

-- the active screen, or a target that lives
abbrev pub IsKnown : State → Target → Type 0
IsKnown s t = (t ≡ s.active) ⊎ IsLive s.connections t

abbrev pub AllKnown : State → List Target → Type 0
AllKnown s [] = Unit {0}
AllKnown s (t ∷ ts) = IsKnown s t × AllKnown s ts

-- ---- changes at connections

-- the serial stays, and who is parting goes on parting
abbrev pub IsTame : (Connection → Connection) → Type 0
IsTame f = (c : Connection) → ((f c).serial ≡ c.serial) × (is_live (f c) ≡ true → is_live c ≡ true)

pub parted-tame : (cause : PartCause) (now : ℕ) → IsTame (parted cause now)
parted-tame cause now c = (refl, λ h. grind (arith, h))

pub drops-tame : IsTame drops
drops-tame c = (refl, λ h. h)

-- it has taken as much as before
abbrev pub KeepsTaken : (Connection → Connection) → Type 0
KeepsTaken f = (c : Connection) → (f c).taken ≡ c.taken

-- who lives goes on living, who is parting stays as it is, and what is dropped stays so
abbrev pub PartsNone : (Connection → Connection) → Type 0
PartsNone f = (c : Connection) → ((f c).is_dropped ≡ c.is_dropped) × (is_live c ≡ true → is_live (f c) ≡ true) × (is_live c ≡ false → (f c).phase ≡ c.phase)

tame_one : (n serial : ℕ) (f : Connection → Connection) → IsTame f → (b : Bool) (c : Connection) → lives_as n (when b f c) ≡ true → lives_as n c ≡ true
tame_one n serial f tame true c h =
    let same : (f c).serial ≡ c.serial = (tame c).0 in
    let on : is_live (f c) ≡ true = grind (arith, h) in
    let was : is_live c ≡ true = (tame c).1 on in
    let is : ((f c).serial == n) ≡ true = grind (arith, h) in
    let here : (c.serial == n) ≡ true = subst (λ m. (m == n) ≡ true) same is in
    grind (arith, here, was)
tame_one n serial f tame false c h = h

either : (a b c d : Bool) → (a ≡ true → c ≡ true) → (b ≡ true → d ≡ true) → (a || b) ≡ true → (c || d) ≡ true
either true b c d f g h = grind (arith, f refl)
either false b c d f g h = grind (arith, g h)

tame_all : (n serial : ℕ) (f : Connection → Connection) → IsTame f → (cs : List Connection) → list_any (lives_as n) (changed serial f cs) ≡ true → list_any (lives_as n) cs ≡ true
tame_all n serial f tame [] h = h
tame_all n serial f tame (c ∷ cs) h = either (lives_as n (changed_at serial f c)) (list_any (lives_as n) (changed serial f cs)) (lives_as n c) (list_any (lives_as n) cs) (tame_one n serial f tame (has_serial serial c) c) (tame_all n serial f tame cs) h

-- who lives after it lived before
pub changed-live : (serial : ℕ) (f : Connection → Connection) → IsTame f → (cs : List Connection) (t : Target) → IsLive (changed serial f cs) t → IsLive cs t
changed-live serial f tame cs Primary h = tt
changed-live serial f tame cs (Client n) h = tame_all n serial f tame cs h

-- the serial stays, and who lives goes on living
abbrev pub IsSteady : (Connection → Connection) → Type 0
IsSteady f = (c : Connection) → ((f c).serial ≡ c.serial) × (is_live (f c) ≡ is_live c)

pub steady-tame : (f : Connection → Connection) → IsSteady f → IsTame f
steady-tame f steady c = ((steady c).0, λ h. sym (steady c).1 ∙ h)

steady_one : (n : ℕ) (f : Connection → Connection) → IsSteady f → (b : Bool) (c : Connection) → lives_as n c ≡ true → lives_as n (when b f c) ≡ true
steady_one n f steady true c h =
    let same : (f c).serial ≡ c.serial = (steady c).0 in
    let on : is_live c ≡ true = grind (arith, h) in
    let now : is_live (f c) ≡ true = (steady c).1 ∙ on in
    let is : (c.serial == n) ≡ true = grind (arith, h) in
    let here : ((f c).serial == n) ≡ true = subst (λ m. (m == n) ≡ true) (sym same) is in
    grind (arith, here, now)
steady_one n f steady false c h = h

steady_all : (n serial : ℕ) (f : Connection → Connection) → IsSteady f → (cs : List Connection) → list_any (lives_as n) cs ≡ true → list_any (lives_as n) (changed serial f cs) ≡ true
steady_all n serial f steady [] h = h
steady_all n serial f steady (c ∷ cs) h = either (lives_as n c) (list_any (lives_as n) cs) (lives_as n (changed_at serial f c)) (list_any (lives_as n) (changed serial f cs)) (steady_one n f steady (has_serial serial c) c) (steady_all n serial f steady cs) h

pub steady-live : (serial : ℕ) (f : Connection → Connection) → IsSteady f → (cs : List Connection) (t : Target) → IsLive cs t → IsLive (changed serial f cs) t
steady-live serial f steady cs Primary h = tt
steady-live serial f steady cs (Client n) h = steady_all n serial f steady cs h

fewer_any : (n : ℕ) (test : Connection → Bool) (cs : List Connection) → list_any (lives_as n) (filter test cs) ≡ true → list_any (lives_as n) cs ≡ true
fewer_any n test [] h = h
fewer_any n test (c ∷ cs) h = by (test c) h (fewer_any n test cs)
  where
    by : (b : Bool) → list_any (lives_as n) (cond b (c ∷ filter test cs) (filter test cs)) ≡ true → (list_any (lives_as n) (filter test cs) ≡ true → list_any (lives_as n) cs ≡ true) → (lives_as n c || list_any (lives_as n) cs) ≡ true
    by true h later = either (lives_as n c) (list_any (lives_as n) (filter test cs)) (lives_as n c) (list_any (lives_as n) cs) (λ e. e) later h
    by false h later = let e = later h in grind (arith, e)

pub removed-live : (serial : ℕ) (cs : List Connection) (t : Target) → IsLive (removed serial cs) t → IsLive cs t
removed-live serial cs Primary h = tt
removed-live serial cs (Client n) h = fewer_any n (λ c. not (has_serial serial c)) cs h

-- ---- who lives

-- the connection that is found lives
pub found-live : (serial : ℕ) (cs : List Connection) (c : Connection) → with_serial serial cs ≡ Some c → is_live c ≡ true → IsLive cs (Client serial)
found-live serial cs c f on =
    let is : has_serial serial c ≡ true = found-passes (has_serial serial) cs c f in
    found-any (has_serial serial) (lives_as serial) cs c f (grind (arith, is, on))

pub lives-live : (serial : ℕ) (s : State) → lives s serial ≡ true → IsLive s.connections (Client serial)
lives-live serial s h = by (connection s serial) refl h
  where
    by : (o : Option Connection) → connection s serial ≡ o → option_map_or is_live o false ≡ true → IsLive s.connections (Client serial)
    by None e h = grind (arith, h)
    by (Some c) e h = found-live serial s.connections c e h

pub phase-live : (serial : ℕ) (s : State) (phase : Phase) → phase_of s serial ≡ Some phase → is_parting phase ≡ false → IsLive s.connections (Client serial)
phase-live serial s phase h p = by (connection s serial) refl h
  where
    by : (o : Option Connection) → connection s serial ≡ o → option_map (λ (c : Connection). c.phase) o ≡ Some phase → IsLive s.connections (Client serial)
    by None e h = none_some phase h
    by (Some c) e h = let on : is_parting c.phase ≡ false = ap is_parting (some_is c.phase phase h) ∙ p in found-live serial s.connections c e (grind (arith, on))

-- one that is found by a test under which it lives
pub tested-live : (test : Connection → Bool) (cs : List Connection) (c : Connection) → find test cs ≡ Some c → is_live c ≡ true → IsLive cs (Client c.serial)
tested-live test cs c f on = found-any test (lives_as c.serial) cs c f (grind (arith, on))

-- a joined connection lives
pub joined-lives : (c : Connection) (screen : ℕ) → screen_in c ≡ Some screen → is_live c ≡ true
joined-lives c screen h = by c.phase h
  where
    by : (phase : Phase) → joined_screen phase ≡ Some screen → not (is_parting phase) ≡ true
    by (Greeting a) h = refl
    by (Asked a) h = refl
    by (Joined a) h = refl
    by (Parting a b) h = none_some screen h

is_as : (screen : ℕ) (c : Connection) → is_joined_as screen c ≡ true → is_live c ≡ true
is_as screen c h = by (screen_in c) refl h
  where
    by : (o : Option ℕ) → screen_in c ≡ o → option_map_or (is_number screen) o false ≡ true → is_live c ≡ true
    by None e h = grind (arith, h)
    by (Some n) e h = joined-lives c n e

-- who has a screen lives
pub target-live : (s : State) (screen : ℕ) (t : Target) → target_of s screen ≡ Some t → IsLive s.connections t
target-live s screen Primary h = tt
target-live s screen (Client n) h = first (screen == s.primary) h
  where
    by : (o : Option Connection) → find (is_joined_as screen) s.connections ≡ o → option_map (λ (c : Connection). Client c.serial) o ≡ Some (Client n) → IsLive s.connections (Client n)
    by None e h = none_some (Client n) h
    by (Some c) e h =
        let is : Client c.serial ≡ Client n = some_is (Client c.serial) (Client n) h in
        subst (IsLive s.connections) is (tested-live (is_joined_as screen) s.connections c e (is_as screen c (found-passes (is_joined_as screen) s.connections c e)))

    first : (b : Bool) → (if b then Some Primary else client_as s screen) ≡ Some (Client n) → IsLive s.connections (Client n)
    first true h = grind (arith, h)
    first false h = by (find (is_joined_as screen) s.connections) refl h

-- ---- all joined clients

all_known : (s : State) (ds : List Connection) → ((n : ℕ) → list_any (lives_as n) ds ≡ true → list_any (lives_as n) s.connections ≡ true) → AllKnown s (filter_map (λ c. option_map (λ screen. Client c.serial) (screen_in c)) ds)
all_known s [] k = tt
all_known s (d ∷ ds) k = by (screen_in d) refl (all_known s ds (λ n h. k n (later n (lives_as n d) h)))
  where
    later : (n : ℕ) (b : Bool) → list_any (lives_as n) ds ≡ true → (b || list_any (lives_as n) ds) ≡ true
    later n b h = grind (arith, h)

    here : (screen : ℕ) → screen_in d ≡ Some screen → (lives_as d.serial d || list_any (lives_as d.serial) ds) ≡ true
    here screen e = let on = joined-lives d screen e in grind (arith, on)

    by : (o : Option ℕ) → screen_in d ≡ o → AllKnown s (filter_map (λ c. option_map (λ screen. Client c.serial) (screen_in c)) ds) → AllKnown s (cons_option (option_map (λ screen. Client d.serial) o) (filter_map (λ c. option_map (λ screen. Client c.serial) (screen_in c)) ds))
    by None e rest = rest
    by (Some screen) e rest = (inr (k d.serial (here screen e)), rest)

pub joined-known : (s : State) → AllKnown s (joined_clients s)
joined-known s = all_known s s.connections (λ n h. h)

pub fewer-known : (s : State) (test : Target → Bool) (ts : List Target) → AllKnown s ts → AllKnown s (filter test ts)
fewer-known s test [] k = tt
fewer-known s test (t ∷ ts) k = by (fewer-known s test ts k.1) (test t)
  where
    by : AllKnown s (filter test ts) → (b : Bool) → AllKnown s (cond b (t ∷ filter test ts) (filter test ts))
    by rest true = (k.0, rest)
    by rest false = rest
