-- What holds of every place that may come next holds of the one that does.
use Rattle.std.specs.Prelude.{◌≡◌, refl, ℕ, ◌-◌, nat_lt, Bool, true, false, ◌&&◌, is_some, if◌then◌else◌, List, [], ◌∷◌}
use Rattle.hub_acts.specs.declared.act.Act.{Act}
use Rattle.hub_acts.specs.declared.act.Act.TheVariants as act
use Rattle.hub_acts.specs.declared.answers.AcceptAnswer.TheVariants as accepted
use Rattle.machine.specs.Connections.{serials}
use Rattle.machine.specs.States.{State}
use Rattle.machine.specs.Readings.{closing}
use Rattle.attentive_acts.specs.Flags.{Flags, is_readable, is_writable, is_listening}
use Rattle.attentive_acts.specs.Places.{Place, Waits, Asks, Accepts, Reads, Writes, Closes, Leaves, most_accepts, at_turn_end, at_closes, at_writes, at_reads, at_accepts, after_first, after_accept, after_wait, place_after}

pub record ComeNext (Q : Place → Type 0) (s : State) : Type 0 where
  pub accepts : (left : ℕ) → Q (Accepts left)
  pub reads : (rest : List ℕ) → Q (Reads rest)
  pub writes : (rest : List ℕ) → Q (Writes rest)
  pub closes : Q Closes
  pub ends : Q (at_turn_end s)

pub closes-next : (Q : Place → Type 0) (s : State) → ComeNext Q s → Q (at_closes s)
closes-next Q s n = at (is_some (closing s))
  where
    at : (b : Bool) → Q (if b then Closes else at_turn_end s)
    at true = n.closes
    at false = n.ends

pub writes-next : (Q : Place → Type 0) (fs : Flags) (s : State) (cs : List ℕ) → ComeNext Q s → Q (at_writes fs s cs)
writes-next Q fs s [] n = closes-next Q s n
writes-next Q fs s (c ∷ cs) n = at (is_writable fs s c) (writes-next Q fs s cs n)
  where
    at : (b : Bool) → Q (at_writes fs s cs) → Q (if b then Writes (c ∷ cs) else at_writes fs s cs)
    at true rest = n.writes (c ∷ cs)
    at false rest = rest

pub reads-next : (Q : Place → Type 0) (fs : Flags) (s : State) (cs : List ℕ) → ComeNext Q s → Q (at_reads fs s cs)
reads-next Q fs s [] n = writes-next Q fs s (serials s.connections) n
reads-next Q fs s (c ∷ cs) n = at (is_readable fs s c) (reads-next Q fs s cs n)
  where
    at : (b : Bool) → Q (at_reads fs s cs) → Q (if b then Reads (c ∷ cs) else at_reads fs s cs)
    at true rest = n.reads (c ∷ cs)
    at false rest = rest

accepts_next : (Q : Place → Type 0) (fs : Flags) (s : State) (left : ℕ) → ComeNext Q s → Q (at_accepts fs s left)
accepts_next Q fs s left n = at (is_listening fs s && nat_lt 0 left)
  where
    at : (b : Bool) → Q (if b then Accepts left else at_reads fs s (serials s.connections))
    at true = n.accepts left
    at false = reads-next Q fs s (serials s.connections) n

accept_next : (Q : Place → Type 0) (a : Act) (left : ℕ) (fs : Flags) (s : State) → ComeNext Q s → Q (after_accept a left fs s)
accept_next Q (act.Accept (accepted.New c)) left fs s n = accepts_next Q fs s (left - 1) n
accept_next Q a left fs s n = reads-next Q fs s (serials s.connections) n

-- after a wait, and where the run ends, it is by what comes there
pub place-next : (Q : Place → Type 0) (place : Place) (a : Act) (fs : Flags) (s : State) → ComeNext Q s → (place ≡ Waits → Q (after_wait a s)) → ((rest : List ℕ) → place ≡ Leaves rest → Q (Leaves (after_first rest))) → Q (place_after place a fs s)
place-next Q Waits a fs s n w l = w refl
place-next Q Asks a fs s n w l = accepts_next Q fs s most_accepts n
place-next Q (Accepts left) a fs s n w l = accept_next Q a left fs s n
place-next Q (Reads rest) a fs s n w l = reads-next Q fs s (after_first rest) n
place-next Q (Writes rest) a fs s n w l = writes-next Q fs s (after_first rest) n
place-next Q Closes a fs s n w l = closes-next Q s n
place-next Q (Leaves rest) a fs s n w l = l rest refl
