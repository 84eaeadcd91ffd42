-- Attentive acts: each is the one that is due, judged by the flags and the machine's state directly
-- before it.
use Rattle.std.specs.Prelude.{◌≡◌, ℕ, ◌+◌, ◌-◌, ◌<◌, min, ◌⊎◌, true, ◌||◌, nat_le, if◌then◌else◌, List, [], ◌∷◌, length, take, drop, Contains, Some}
use Rattle.hub_acts.specs.declared.act.Act.{Act}
use Rattle.hub_acts.specs.declared.act.Act.TheVariants as act
use Rattle.hub_acts.specs.declared.answers.ReadAnswer.{ReadAnswer}
use Rattle.hub_acts.specs.declared.answers.ReadAnswer.TheVariants as read
use Rattle.hub_acts.specs.Hubs.{FitsAccept, FitsRead, FitsWrite}
use Rattle.hub_acts.specs.Counting.{latest_with}
use Rattle.machine.specs.Connections.{serials}
use Rattle.machine.specs.States.{State}
use Rattle.machine.specs.Screens.{taken_by}
use Rattle.machine.specs.Queues.{queue}
use Rattle.machine.specs.Readings.{closing, due}
use Rattle.attentive_acts.specs.Telling.{state_after}
use Rattle.attentive_acts.specs.Flags.{Flags, first_flags, flags_after, is_busy, is_readable, is_writable, is_listening}
use Rattle.attentive_acts.specs.Borders.{borders}
use Rattle.attentive_acts.specs.Places.{Place, Waits, Asks, Accepts, Reads, Writes, Closes, Leaves, place_after}

-- what an act is judged by
pub record Judge : Type 0 where
  pub flags : Flags
  pub latest : ℕ  -- the latest serial
  pub state : State
  pub place : Place

-- before the first act
abbrev pub first_judge : State → Judge
first_judge s = record { flags = first_flags; latest = 0; state = s; place = Waits }

-- ---- what is due

-- the longest wait, in milliseconds
abbrev pub longest_wait : ℕ
longest_wait = 1000

-- none where something is undrained or due
abbrev pub timeout : Flags → State → ℕ
timeout fs s = if is_busy fs s || nat_le (due s) s.at then 0 else min longest_wait (due s - s.at)

-- the most bytes that one read or write moves
abbrev pub most_moved : ℕ
most_moved = 65536

-- the bytes of its queue that a connection has not taken
abbrev pub untaken : State → ℕ → List ℕ
untaken s c = drop (taken_by s c) (queue s.routed c)

-- the most that one write offers
abbrev pub most_offered : State → ℕ → ℕ
most_offered s c = min most_moved (length (untaken s c))

-- the first untaken bytes: as many as one write may offer, or fewer up to a border
pub record IsPiece (s : State) (c : ℕ) (bytes : List ℕ) : Type 0 where
  pub front : bytes ≡ take (length bytes) (untaken s c)
  pub some : 0 < length bytes
  pub long : (length bytes ≡ most_offered s c)
      ⊎ ((length bytes < most_offered s c)
      × Contains (borders s.routed c) (taken_by s c + length bytes))

-- a read gives as many bytes as it says
abbrev pub HasBytes : ReadAnswer → List ℕ → Type 0
HasBytes (read.Got n) bytes = length bytes ≡ n
HasBytes answer bytes = bytes ≡ []

-- ---- the acts that are due

abbrev pub AllowsWait : Judge → Act → Type 0
AllowsWait j (act.Wait ms answer marks) = ms ≡ timeout j.flags j.state
AllowsWait j a = ⊥

abbrev pub AllowsNow : Act → Type 0
AllowsNow (act.Now moment) = Unit {0}
AllowsNow a = ⊥

abbrev pub AllowsAccept : Judge → Act → Type 0
AllowsAccept j (act.Accept answer) =
    FitsAccept answer j.latest × (is_listening j.flags j.state ≡ true)
AllowsAccept j a = ⊥

abbrev pub AllowsRead : Judge → ℕ → Act → Type 0
AllowsRead j c (act.Read d room answer bytes) = (d ≡ c) × (room ≡ most_moved) × FitsRead answer room
    × HasBytes answer bytes × (is_readable j.flags j.state c ≡ true)
AllowsRead j c a = ⊥

abbrev pub AllowsWrite : Judge → ℕ → Act → Type 0
AllowsWrite j c (act.Write d bytes answer) = (d ≡ c) × IsPiece j.state c bytes
    × FitsWrite answer (length bytes) × (is_writable j.flags j.state c ≡ true)
AllowsWrite j c a = ⊥

abbrev pub AllowsClose : Judge → Act → Type 0
AllowsClose j (act.Close d) = closing j.state ≡ Some d
AllowsClose j a = ⊥

abbrev pub AllowsLeave : ℕ → Act → Type 0
AllowsLeave c (act.Close d) = d ≡ c
AllowsLeave c a = ⊥

abbrev pub AllowsAt : Place → Judge → Act → Type 0
AllowsAt Waits j a = AllowsWait j a
AllowsAt Asks j a = AllowsNow a
AllowsAt (Accepts left) j a = AllowsAccept j a
AllowsAt (Reads (c ∷ rest)) j a = AllowsRead j c a
AllowsAt (Writes (c ∷ rest)) j a = AllowsWrite j c a
AllowsAt Closes j a = AllowsClose j a
AllowsAt (Leaves (c ∷ rest)) j a = AllowsLeave c a
AllowsAt place j a = ⊥

abbrev pub Allows : Judge → Act → Type 0
Allows j a = AllowsAt j.place j a

-- ---- lists of acts

abbrev pub judge_after : Judge → Act → Judge
judge_after j a =
    let next : State = state_after a j.state in
    let fs : Flags = flags_after a j.state next j.flags in
    record {
      flags = fs;
      latest = latest_with a j.latest;
      state = next;
      place = place_after j.place a fs next;
    }

abbrev pub judged : Judge → List Act → Judge
judged j [] = j
judged j (a ∷ acts) = judged (judge_after j a) acts

-- each act is due where it stands. A front of such acts is such too
abbrev pub Follows : Judge → List Act → Type 0
Follows j [] = Unit {0}
Follows j (a ∷ acts) = Allows j a × Follows (judge_after j a) acts

-- the run ends: the connections that are open leave, by rising serial
abbrev pub leaving : Judge → Judge
leaving j = record j { place = Leaves (serials j.state.connections) }
