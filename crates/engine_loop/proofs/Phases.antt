-- The phases of a turn, act by act.
use Rattle.std.specs.Prelude.{◌≡◌, refl, ℕ, zero, suc, ◌+◌, ◌<◌, ◌≤◌, false, List, [], ◌∷◌, get_or, drop, length, map, Contains}
use Rattle.std.proofs.Common.{arith, ap, sym, subst, ◌∙◌}
use Rattle.std.proofs.lemmas.Grind.{common_steps}
use Rattle.std.proofs.lemmas.List.{drop_all, get_or_default}
use Rattle.std.proofs.lemmas.List.Elements.{Contains-append_right}
use Rattle.hub_acts.specs.Hubs.{HubState}
use Rattle.machine.specs.Connections.{serials}
use Rattle.machine.specs.States.{State}
use Rattle.attentive_acts.specs.Flags.{Flags}
use Rattle.attentive_acts.specs.Places.{Place}
use Rattle.engine_loop.specs.declared.watch.Watch.{Watch}
use Rattle.engine_loop.specs.declared.watch.Stream.{Stream}
use Rattle.engine_loop.specs.Watches.{serials_in, serial_of}
use Rattle.engine_loop.specs.Stages.{Course, Stage, Is}
use Rattle.engine_loop.proofs.MoreActs.{elsewhere}

map_drop : (n : ℕ) (xs : List Stream) → drop n (map serial_of xs) ≡ map serial_of (drop n xs)
map_drop zero xs = refl
map_drop (suc n) [] = refl
map_drop (suc n) (x ∷ xs) = map_drop n xs

-- the first one of those that are left
pub next-serial : (ts : List Stream) (ns : List ℕ) (i : ℕ) (t : Stream) → map serial_of ts ≡ ns → i < length ts → t ≡ get_or ts i t → drop i ns ≡ t.serial ∷ drop (i + 1) ns
next-serial ts ns i t e lt is =
    let whole : drop i ts ≡ get_or ts i t ∷ drop (i + 1) ts = grind (arith, common_steps, lt) in
    let left : drop i ts ≡ t ∷ drop (i + 1) ts = whole ∙ ap (λ (x : Stream). x ∷ drop (i + 1) ts) (sym is) in
    ap (drop i) (sym e) ∙ map_drop i ts ∙ ap (map serial_of) left ∙ ap (λ (xs : List ℕ). t.serial ∷ xs) (sym (map_drop (i + 1) ts) ∙ ap (drop (i + 1)) e)

pub in-range : (ts us : List Stream) (i n : ℕ) → map serial_of ts ≡ map serial_of us → n ≡ length us → i < n → i < length ts
in-range ts us i n e k lt =
    let a : length (map serial_of ts) ≡ length ts = grind (arith, common_steps) in
    let b : length (map serial_of us) ≡ length us = grind (arith, common_steps) in
    let same = ap length e in
    omega (arith, a, b, same, k, lt)

pub none-left : (ns : List ℕ) (us : List Stream) (i n : ℕ) → ns ≡ map serial_of us → n ≡ length us → n ≤ i → drop i ns ≡ []
none-left ns us i n e k le =
    let b : length (map serial_of us) ≡ length us = grind (arith, common_steps) in
    let same = ap length e in
    drop_all i ns (omega (arith, b, same, k, le))

pub has-serial : (ts : List Stream) (i : ℕ) (t : Stream) → i < length ts → t ≡ get_or ts i t → Contains (map serial_of ts) t.serial
has-serial [] i t lt is = absurd (let x : ⊥ = omega (arith, lt) in x)
has-serial (x ∷ xs) zero t lt is = (0, omega arith, ap serial_of (sym is))
has-serial (x ∷ xs) (suc i) t lt is = Contains-append_right (x.serial ∷ []) (map serial_of xs) t.serial (has-serial xs i t (omega (arith, lt)) is)

-- ---- the items of a loop over what is watched

-- what the loop's item is called past the end of the list
abbrev pub none_watched : Stream
none_watched = record { serial = 0; reads = false; writes = false; seen = 0 }

-- the item at an index that is in range
pub item-at : (ts us : List Stream) (i : ℕ) → ts ≡ us → i < length ts → (i < length us) × (get_or ts i none_watched ≡ get_or us i (get_or ts i none_watched))
item-at ts us i e lt =
    let within : i < length us = subst (λ (xs : List Stream). i < length xs) e lt in
    (within, ap (λ (xs : List Stream). get_or xs i none_watched) e ∙ get_or_default us i none_watched (get_or ts i none_watched) within)

-- and the serials from there on
pub serials-from : (ts us : List Stream) (i : ℕ) → ts ≡ us → i < length ts → drop i (map serial_of us) ≡ (get_or ts i none_watched).serial ∷ drop (i + 1) (map serial_of us)
serials-from ts us i e lt =
    let found = item-at ts us i e lt in
    next-serial us (map serial_of us) i (get_or ts i none_watched) refl found.0 found.1

-- ---- a phase that goes over what is watched

module _ {E H : Type 0} (serves : E → List ℕ → State → Type 0) (state : H → HubState) (leads : H → H → Type 0) (r : Course H) (core : E) (hub : H) (watch : Watch) (due : Flags → State → List ℕ → Place) where
  abbrev DueOver : List ℕ → Type 0
  DueOver ns = Stage serves state leads r core hub watch (Is (λ fs s. due fs s ns))

  -- it begins: the connections are those that are watched
  pub phase-begins : Stage serves state leads r core hub watch (Is (λ fs s. due fs s (serials s.connections))) → DueOver (serials_in watch)
  phase-begins st =
      elsewhere serves state leads r core hub watch (Is (λ fs s. due fs s (serials s.connections))) (Is (λ fs s. due fs s (serials_in watch))) st
      (st.there ∙ ap (due st.judge.flags st.judge.state) (sym st.watched))

  -- it comes to the stream of an index, where it began with these
  pub phase-at : (first : Watch) (i n : ℕ) (t : Stream) → serials_in watch ≡ serials_in first → n ≡ length first.streams.items → i < n → t ≡ get_or watch.streams.items i t
      → DueOver (drop i (serials_in first)) → DueOver (t.serial ∷ drop (i + 1) (serials_in first))
  phase-at first i n t e k lt is st =
      subst DueOver (next-serial watch.streams.items (serials_in first) i t e (in-range watch.streams.items first.streams.items i n e k lt) is) st

  -- it has gone over all of them
  pub phase-ends : (first : Watch) (i n : ℕ) → n ≡ length first.streams.items → n ≤ i → DueOver (drop i (serials_in first)) → DueOver []
  phase-ends first i n k le st = subst DueOver (none-left (serials_in first) first.streams.items i n refl k le) st
