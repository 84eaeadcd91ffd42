-- What each call of a table keeps of the machine's connections.
use Rattle.std.specs.Prelude.{◌≡◌, refl, ℕ, ◌+◌, ◌==◌, Bool, true, false, not, ◌||◌, List, [], ◌∷◌, ◌++◌, Option, unwrap_or}
use Rattle.std.specs.List.{find}
use Rattle.std.specs.Option.{option_map, option_map_or}
use Rattle.std.proofs.Common.{arith, sym, ap, ◌∙◌, subst}
use Rattle.message_codec.specs.declared.messages.Msg.{Msg}
use Rattle.hello_states.specs.declared.part_cause.PartCause.{PartCause}
use Rattle.hello_states.specs.Causes.{drops_queue}
use Rattle.hello_states.specs.Handshake.{parting_for}
use Rattle.hello_states.specs.Phases.{Phase, Greeting, Asked, Joined, Parting, is_parting}
use Rattle.machine.specs.Targets.{Entry, Origin, Target, Primary, Client, same_target}
use Rattle.machine.specs.Connections.{Connection, has_serial, is_live, changed}
use Rattle.machine.specs.Partings.{parted}
use Rattle.machine.specs.Steps.{drops, takes}
use Rattle.send_queue.specs.Standing as queues
use Rattle.send_queue.specs.Calls.{entry_of}
use Rattle.send_queue.proofs.Standing.{other-targets}
use Rattle.connection_table.specs.declared.connection.Connection as kept
use Rattle.connection_table.specs.PhaseOf.{parted_phase}
use Rattle.connection_table.specs.Calls.{Sends, Parts, Drops, Takes}
use Rattle.connection_table.specs.Tables.{ChangesAt}
use Rattle.connection_table.specs.Standing.{Surroundings, told, StandsFor, AreFor}
use Rattle.connection_table.proofs.Pairs.{pairs-each, pairs-first, pairs-changed, FoundPair, pairs-find}
use Prim.{search}

-- ---- one connection

-- a message more was routed to it
stands-sent : (a : Surroundings) (o : Origin) (m : Msg) (k l : kept.Connection) (c : Connection) → StandsFor a k c → Sends m k l → StandsFor (told (entry_of o c.serial m c.taken) a) l c
stands-sent a o m k l c h s = subst (λ x. StandsFor (told (entry_of o c.serial m c.taken) a) x c) (sym s.rest) (search (subst (λ t. queues.Stands l.queue (a.routed ++ entry_of o c.serial m t ∷ []) c.serial) h.taken (s.pushes.stands a.routed c.serial o h.queue), s.pushes.taken ∙ h.taken, s.pushes.is_discarded ∙ h.dropped))

-- a message was routed to another target
pub stands-other : (a : Surroundings) (e : Entry) (k : kept.Connection) (c : Connection) → same_target e.target (Client c.serial) ≡ false → StandsFor a k c → StandsFor (told e a) k c
stands-other a e k c other h = search (other-targets k.queue a.routed c.serial e other h.queue)

parted-is : (cause : PartCause) (now : ℕ) (phase : Phase) → not (is_parting phase) ≡ true → parted_phase cause now phase ≡ parting_for cause now
parted-is cause now (Greeting a) h = refl
parted-is cause now (Asked a) h = refl
parted-is cause now (Joined a) h = refl
parted-is cause now (Parting a b) h = absurd (let x : ⊥ = cc in x)

or_false : (a b : Bool) → b ≡ false → (a || b) ≡ a
or_false true b h = refl
or_false false b h = h

stands-parted : (a : Surroundings) (cause : PartCause) (now : ℕ) (k l : kept.Connection) (c : Connection) → is_live c ≡ true → StandsFor a k c → Parts cause now k l → StandsFor a l (parted cause now c)
stands-parted a cause now k l c on h p = subst (λ x. StandsFor a x (parted cause now c)) (sym p.rest) (record {
  serial = h.serial;
  phase = p.phase ∙ (ap (parted_phase cause now) h.phase ∙ parted-is cause now c.phase on);
  known = tt;
  role = h.role;
  heard = λ e. absurd (let x : ⊥ = cc in x);
  reader = λ e. absurd (let x : ⊥ = cc in x);
  clipboard = h.clipboard;
  selection = h.selection;
  queue = p.queue a.routed c.serial h.queue;
  taken = p.taken ∙ h.taken;
  dropped = p.discarded ∙ or_false (drops_queue cause) k.queue.is_discarded (h.dropped ∙ h.holds on);
  holds = λ e. absurd (let x : ⊥ = cc in x);
})

stands-dropped : (a : Surroundings) (k l : kept.Connection) (c : Connection) → is_live c ≡ false → StandsFor a k c → Drops k l → StandsFor a l (drops c)
stands-dropped a k l c off h p = subst (λ x. StandsFor a x (drops c)) (sym p.rest) (record {
  serial = h.serial;
  phase = h.phase;
  known = h.known;
  role = h.role;
  heard = h.heard;
  reader = h.reader;
  clipboard = h.clipboard;
  selection = h.selection;
  queue = p.discards.stands a.routed c.serial h.queue;
  taken = p.discards.taken ∙ h.taken;
  dropped = p.discards.is_discarded;
  holds = λ e. absurd (let x : ⊥ = cc in x);
})

stands-taken : (a : Surroundings) (count : ℕ) (k l : kept.Connection) (c : Connection) → StandsFor a k c → Takes count k l → StandsFor a l (takes count c)
stands-taken a count k l c h p = subst (λ x. StandsFor a x (takes count c)) (sym p.rest) (search (p.takes.stands a.routed c.serial h.queue, p.takes.taken ∙ ap (λ n. n + count) h.taken, p.takes.is_discarded ∙ h.dropped))

-- ---- all of them

serial-of : (a : Surroundings) (k : kept.Connection) (c : Connection) → StandsFor a k c → k.serial ≡ c.serial
serial-of a k c h = h.serial

-- how many bytes the connection of a serial took
abbrev pub taken_in : ℕ → List Connection → ℕ
taken_in n cs = unwrap_or (option_map (λ (c : Connection). c.taken) (find (has_serial n) cs)) 0

pub are-sent : (a : Surroundings) (n : ℕ) (o : Origin) (m : Msg) (ks ls : List kept.Connection) (cs : List Connection) → AreFor a ks cs → ChangesAt n (Sends m) ks ls → AreFor (told (entry_of o n m (taken_in n cs)) a) ls cs
are-sent a n o m ks ls cs h g =
    pairs-first n (StandsFor a) (StandsFor (told (entry_of o n m (taken_in n cs)) a)) (Sends m) (find (has_serial n) cs) (serial-of a)
    (λ k l c f is r s.
    let there : taken_in n cs ≡ c.taken = ap (λ (x : Option Connection). unwrap_or (option_map (λ (d : Connection). d.taken) x) 0) f in
    let told_it : StandsFor (told (entry_of o c.serial m c.taken) a) l c = stands-sent a o m k l c r s in
    subst (λ t. StandsFor (told (entry_of o n m t) a) l c) (sym there) (subst (λ i. StandsFor (told (entry_of o i m c.taken) a) l c) is told_it))
    (λ k c e r. stands-other a (entry_of o n m (taken_in n cs)) k c (apart n c.serial e) r)
    0 ks ls cs refl h g
  where
    apart : (n m : ℕ) → (m == n) ≡ false → (n == m) ≡ false
    apart n m h = grind (arith, h)

pub are-other : (a : Surroundings) (e : Entry) (ks : List kept.Connection) (cs : List Connection) → same_target e.target Primary ≡ true → AreFor a ks cs → AreFor (told e a) ks cs
are-other a e ks cs primary h = pairs-each (StandsFor a) (StandsFor (told e a)) (λ k c r. stands-other a e k c (by e.target c.serial primary) r) 0 ks cs h
  where
    by : (t : Target) (n : ℕ) → same_target t Primary ≡ true → same_target t (Client n) ≡ false
    by Primary n h = refl
    by (Client m) n h = absurd (let x : ⊥ = cc in x)

-- the connection of that serial lives
abbrev pub lives_in : ℕ → List Connection → Bool
lives_in n cs = option_map_or is_live (find (has_serial n) cs) false

pub are-parted : (a : Surroundings) (n : ℕ) (cause : PartCause) (now : ℕ) (ks ls : List kept.Connection) (cs : List Connection) → lives_in n cs ≡ true → AreFor a ks cs → ChangesAt n (Parts cause now) ks ls → AreFor a ls (changed n (parted cause now) cs)
are-parted a n cause now ks ls cs on h g =
    pairs-changed n (StandsFor a) (StandsFor a) (Parts cause now) (parted cause now) (find (has_serial n) cs) (λ c. refl) (serial-of a)
    (λ k l c f r p. stands-parted a cause now k l c (sym (ap (λ (x : Option Connection). option_map_or is_live x false) f) ∙ on) r p)
    (λ k c e r. r)
    0 ks ls cs refl h g

pub are-dropped : (a : Surroundings) (n : ℕ) (ks ls : List kept.Connection) (cs : List Connection) → lives_in n cs ≡ false → AreFor a ks cs → ChangesAt n Drops ks ls → AreFor a ls (changed n drops cs)
are-dropped a n ks ls cs off h g =
    pairs-changed n (StandsFor a) (StandsFor a) Drops drops (find (has_serial n) cs) (λ c. refl) (serial-of a)
    (λ k l c f r p. stands-dropped a k l c (sym (ap (λ (x : Option Connection). option_map_or is_live x false) f) ∙ off) r p)
    (λ k c e r. r)
    0 ks ls cs refl h g

pub are-taken : (a : Surroundings) (n count : ℕ) (ks ls : List kept.Connection) (cs : List Connection) → AreFor a ks cs → ChangesAt n (Takes count) ks ls → AreFor a ls (changed n (takes count) cs)
are-taken a n count ks ls cs h g =
    pairs-changed n (StandsFor a) (StandsFor a) (Takes count) (takes count) (find (has_serial n) cs) (λ c. refl) (serial-of a)
    (λ k l c f r p. stands-taken a count k l c r p)
    (λ k c e r. r)
    0 ks ls cs refl h g

-- ---- what is found

-- by tests that agree
pub are-found : (a : Surroundings) (t : kept.Connection → Bool) (u : Connection → Bool) → ((k : kept.Connection) (c : Connection) → StandsFor a k c → t k ≡ u c) → (ks : List kept.Connection) (cs : List Connection) → AreFor a ks cs → FoundPair (StandsFor a) (find t ks) (find u cs)
are-found a t u agree ks cs h = pairs-find (StandsFor a) t u agree 0 ks cs h
