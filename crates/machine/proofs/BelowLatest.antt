-- An invariant: connections, the active screen and the targets of all entries have serials up to the latest one.
use Rattle.std.specs.Prelude.{◌≡◌, refl, ℕ, ◌<◌, Bool, true, false, not, nat_le, ◌||◌, cond, List, [], ◌∷◌, filter}
use Rattle.std.specs.List.{list_all, list_any}
use Rattle.std.proofs.Common.{arith, sym, subst, inl, inr}
use Rattle.std.proofs.lemmas.Bool.{and_parts}
use Rattle.std.proofs.lemmas.Bool.Decides.{nat_tests}
use Rattle.message_codec.specs.declared.messages.Msg.{Msg}
use Rattle.message_codec.specs.declared.messages.Msg.TheVariants as msg
use Rattle.machine.specs.Targets.{Target, Primary, Client, Entry, Origin, Own, same_target}
use Rattle.machine.specs.Connections.{Connection, has_serial, is_live, changed, removed}
use Rattle.machine.specs.States.{State, Point}
use Rattle.machine.specs.Combining.{when}
use Rattle.machine.specs.Queues.{entries_for}
use Rattle.machine.specs.Routing.{route, entry}
use Rattle.machine.specs.Switching.{entering, at_screen, tell_leaving}
use Rattle.machine.specs.Partings.{parted}
use Rattle.machine.specs.Steps.{drops}
use Rattle.machine.specs.Screens.{change}
use Rattle.machine.proofs.Live.{lives_as, IsLive, IsKnown, IsTame, parted-tame, drops-tame}
use Rattle.machine.proofs.Invariant.{View, On, IsInvariant}
use Rattle.machine.proofs.AnyButton.{any, any_origin, rules-any, lines-any}
use Rattle.machine.proofs.AtKeyButtons.{all-more}

abbrev pub is_upto : ℕ → Target → Bool
is_upto latest Primary = true
is_upto latest (Client n) = nat_le n latest

abbrev pub connection_upto : ℕ → Connection → Bool
connection_upto latest c = nat_le c.serial latest

abbrev pub entry_upto : ℕ → Entry → Bool
entry_upto latest e = is_upto latest e.target

pub record AreBelow (latest : ℕ) (t : Target) (cs : List Connection) (entries : List Entry) : Type 0 where
  pub active : is_upto latest t ≡ true
  pub connections : list_all (connection_upto latest) cs ≡ true
  pub routed : list_all (entry_upto latest) entries ≡ true

abbrev pub BelowLatest : ℕ → View → Type 0
BelowLatest latest v = AreBelow latest v.active v.connections v.routed

live_upto : (latest n : ℕ) (cs : List Connection) → list_all (connection_upto latest) cs ≡ true → list_any (lives_as n) cs ≡ true → nat_le n latest ≡ true
live_upto latest n [] h k = grind (arith, k)
live_upto latest n (c ∷ cs) h k =
    let b = and_parts (connection_upto latest c) (list_all (connection_upto latest) cs) h in
    by (lives_as n c) refl k (live_upto latest n cs b.1) b.0
  where
    by : (t : Bool) → lives_as n c ≡ t → (t || list_any (lives_as n) cs) ≡ true → (list_any (lives_as n) cs ≡ true → nat_le n latest ≡ true) → connection_upto latest c ≡ true → nat_le n latest ≡ true
    by true e k later upto = let here = and_parts (has_serial n c) (is_live c) e in let is : c.serial ≡ n = grind (arith, here.0) in subst (λ m. nat_le m latest ≡ true) is upto
    by false e k later upto = later k

target_upto : (latest : ℕ) (s : State) (t : Target) → IsLive s.connections t → On (BelowLatest latest) s → is_upto latest t ≡ true
target_upto latest s Primary on h = refl
target_upto latest s (Client n) on h = live_upto latest n s.connections h.connections on

known_upto : (latest : ℕ) (s : State) (t : Target) → IsKnown s t → On (BelowLatest latest) s → is_upto latest t ≡ true
known_upto latest s t k h = elim k [
  | inl e ↦ subst (λ u. is_upto latest u ≡ true) (sym e) h.active
  | inr on ↦ target_upto latest s t on h
]

one : (latest : ℕ) (o : Origin) (t : Target) (m : Msg) (s : State) → is_upto latest t ≡ true → On (BelowLatest latest) s → On (BelowLatest latest) (route o t m s)
one latest o t m s u h = record { active = h.active; connections = h.connections; routed = all-more (entry_upto latest) s.routed (entry o t m s) u h.routed }

changed_upto : (latest serial : ℕ) (f : Connection → Connection) → IsTame f → (cs : List Connection) → list_all (connection_upto latest) cs ≡ true → list_all (connection_upto latest) (changed serial f cs) ≡ true
changed_upto latest serial f tame [] h = refl
changed_upto latest serial f tame (c ∷ cs) h =
    let b = and_parts (connection_upto latest c) (list_all (connection_upto latest) cs) h in
    let here = at (has_serial serial c) b.0 in
    let rest = changed_upto latest serial f tame cs b.1 in
    grind (arith, here, rest)
  where
    at : (t : Bool) → connection_upto latest c ≡ true → connection_upto latest (when t f c) ≡ true
    at true e = subst (λ n. nat_le n latest ≡ true) (sym (tame c).0) e
    at false e = e

removed_upto : (latest : ℕ) (test : Connection → Bool) (cs : List Connection) → list_all (connection_upto latest) cs ≡ true → list_all (connection_upto latest) (filter test cs) ≡ true
removed_upto latest test [] h = refl
removed_upto latest test (c ∷ cs) h =
    let b = and_parts (connection_upto latest c) (list_all (connection_upto latest) cs) h in
    by (test c) b.0 (removed_upto latest test cs b.1)
  where
    by : (t : Bool) → connection_upto latest c ≡ true → list_all (connection_upto latest) (filter test cs) ≡ true → list_all (connection_upto latest) (cond t (c ∷ filter test cs) (filter test cs)) ≡ true
    by true e rest = grind (arith, e, rest)
    by false e rest = rest

entered : (latest : ℕ) (o : Origin) (to : Target) (p : Point) (s : State) → is_upto latest to ≡ true → On (BelowLatest latest) s → On (BelowLatest latest) (route o to (entering p s) (at_screen to p s))
entered latest o to p s u h = one latest o to (entering p s) (at_screen to p s) u (record { active = u; connections = h.connections; routed = h.routed })

pub took : (latest serial : ℕ) (f : Connection → Connection) → IsTame f → (s : State) → On (BelowLatest latest) s → On (BelowLatest latest) (change serial f s)
took latest serial f tame s h = record { active = h.active; connections = changed_upto latest serial f tame s.connections h.connections; routed = h.routed }

pub closed : (latest serial : ℕ) (s : State) → On (BelowLatest latest) s → On (BelowLatest latest) (record s { connections = removed serial s.connections })
closed latest serial s h = record { active = h.active; connections = removed_upto latest (λ c. not (has_serial serial c)) s.connections h.connections; routed = h.routed }

pub invariant : (latest : ℕ) → IsInvariant any any_origin (BelowLatest latest)
invariant latest = record {
  own = refl;
  rules = λ s h. rules-any s.config.hotkeys;
  script = λ s h. lines-any s.lines;
  plain = λ o a t m p s k h. one latest o t m s (known_upto latest s t k h) h;
  input = λ o a m p b s h. one latest o s.active m s h.active h;
  switched = λ o a to p s on h. entered latest o to p (tell_leaving s) (target_upto latest s to on h) (one latest Own s.active msg.Leave s h.active h);
  fell = λ p s off h. entered latest Own Primary p s refl h;
  changed = λ serial f tame same stays s h. took latest serial f tame s h;
  parts = λ cause serial s on h. took latest serial (parted cause s.at) (parted-tame cause s.at) s h;
  discards = λ serial s off h. took latest serial drops drops-tame s h;
  logged = λ lines s h. h;
  ahead = λ lines k s h. h;
}

-- ---- a serial above the latest

none_for : (latest n : ℕ) (routed : List Entry) → latest < n → list_all (entry_upto latest) routed ≡ true → entries_for (Client n) routed ≡ []
none_for latest n [] a h = refl
none_for latest n (e ∷ routed) a h =
    let b = and_parts (entry_upto latest e) (list_all (entry_upto latest) routed) h in
    by (same_target e.target (Client n)) (other e.target b.0) (none_for latest n routed a b.1)
  where
    other : (t : Target) → is_upto latest t ≡ true → same_target t (Client n) ≡ false
    other Primary u = refl
    other (Client m) u = grind (arith, nat_tests, u, a)

    by : (t : Bool) → t ≡ false → entries_for (Client n) routed ≡ [] → cond t (e ∷ entries_for (Client n) routed) (entries_for (Client n) routed) ≡ []
    by true k rest = grind (arith, k)
    by false k rest = rest

-- it was told nothing
pub untold : (latest n : ℕ) (s : State) → latest < n → On (BelowLatest latest) s → entries_for (Client n) s.routed ≡ []
untold latest n s a h = none_for latest n s.routed a h.routed
