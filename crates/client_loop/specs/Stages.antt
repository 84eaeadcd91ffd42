-- How far a run of the loop has come, while the client goes on.
use Rattle.std.specs.Prelude.{◌≡◌, ℕ, ◌+◌, ◌*◌, ◌≤◌, nat_lt, Bool, true, false, ◌⊎◌, List, ◌++◌, length, count_by, Option, None, Some, Result, Ok, Err}
use Rattle.std.specs.Option.{option_map}
use Rattle.hub_acts.specs.declared.act.Act.{Act}
use Rattle.hub_acts.specs.declared.act.Act.TheVariants as act
use Rattle.hub_acts.specs.Links.{LinkState}
use Rattle.client_core.specs.declared.client_end.ClientEnd.{ClientEnd}
use Rattle.client_core.specs.declared.client_end.ClientEnd.TheVariants as end
use Rattle.client_core.specs.Clients.{Client}
use Rattle.client_core.specs.Happenings.{untaken}
use Rattle.attentive_links.specs.Flags.{Flags, with_marks}
use Rattle.attentive_links.specs.Places.{Place}
use Rattle.attentive_links.specs.Judging.{Judge, Follows, judged, first_judge, most_moved}
use Rattle.client_loop.specs.declared.watch.Watch.{Watch}

-- ---- acts

abbrev pub is_wait : Act → Bool
is_wait (act.LinkWait ms answer) = true
is_wait a = false

abbrev pub waits_in : List Act → ℕ
waits_in acts = count_by is_wait acts

-- acts were made after those that are known
abbrev pub known_with : List Act → Option (List Act) → Option (List Act)
known_with acts known = option_map (λ before. before ++ acts) known

-- acts that were due, one after another
pub record Made (first : Judge) (old new : LinkState) (acts : List Act) (last : Judge)
    : Type 0 where
  pub follows : Follows first acts
  pub judges : judged first acts ≡ last
  pub known : new.acts ≡ known_with acts old.acts

-- ---- a run

-- what it began with, how many turns it may take, the text of the lines that was cleared, and how
-- many waits were made, and reads at most
pub record Course (L : Type 0) : Type 0 where
  pub first : Client
  pub link : L
  pub turns : ℕ
  pub front : List ℕ
  pub waits : ℕ
  pub reads : ℕ

abbrev pub waited_once : {L : Type 0} → Course L → Course L
waited_once r = record r { waits = r.waits + 1 }

abbrev pub read_once : {L : Type 0} → Course L → Course L
read_once r = record r { reads = r.reads + 1 }

abbrev pub with_front : {L : Type 0} → List ℕ → Course L → Course L
with_front front r = record r { front = front }

-- what is watched, as flags
abbrev pub flags_of : Watch → Flags
flags_of w = record { reads = w.reads; writes = w.writes }

-- the acts were due, and the client, the link and what is watched are where they lead. That act is
-- due now
pub record Stage {C L : Type 0} (stands : C → List ℕ → Client → Type 0) (state : L → LinkState)
    (leads : L → L → Type 0) (r : Course L) (core : C) (link : L) (watch : Watch)
    (due : Flags → Client → Place) : Type 0 where
  pub acts : List Act
  pub judge : Judge
  pub made : Made (first_judge r.first) (state r.link) (state link) acts judge
  pub waits : waits_in acts ≡ r.waits
  pub faults : (state link).faults ≡ (state r.link).faults
  pub breaks : (state link).breaks ≡ (state r.link).breaks
  pub led : leads r.link link
  pub flags : judge.flags ≡ flags_of watch
  pub goes : judge.client.done ≡ None
  pub few : length judge.client.received ≤ most_moved * r.reads
  pub stood : stands core r.front judge.client
  pub there : judge.place ≡ due judge.flags judge.client

-- ---- what is read off, of a client that goes on

abbrev pub Answers : {C A : Type 0} → (C → List ℕ → Client → Type 0) → C → Watch → A
    → (Flags → Client → A) → Type 0
Answers stands core watch answer f =
    (front : List ℕ) (c : Client) → c.done ≡ None → stands core front c
    → answer ≡ f (flags_of watch) c

-- ---- what is told

-- it has that end, or none
abbrev pub HasEnd : Result (Unit {0}) ClientEnd → Option ClientEnd → Type 0
HasEnd (Ok going) finish = finish ≡ None
HasEnd (Err e) finish = finish ≡ Some e

-- where more is queued than those many bytes, that is as good as a mark
abbrev pub IsMarked : ℕ → Client → Watch → Watch → Type 0
IsMarked before c old new =
    flags_of new ≡ with_marks false (nat_lt before (length (untaken c))) (flags_of old)

abbrev pub Looks : {C : Type 0} → (C → List ℕ → Client → Type 0) → C → Watch → Watch → ℕ
    → Result (Unit {0}) ClientEnd → Type 0
Looks stands core old new before result =
    (front : List ℕ) (c : Client) → stands core front c
    → IsMarked before c old new × HasEnd result c.done

-- it is the next client, which goes on or has that end; or memory ran out
abbrev pub AfterTelling : {C : Type 0} → (C → List ℕ → Client → Type 0)
    → Result (Unit {0}) ClientEnd → C → Watch → Watch → List ℕ → (c next : Client)
    → (Client → Type 0) → Type 0
AfterTelling stands (Ok going) core old new front c next InPart =
    stands core front next × (next.done ≡ None) × IsMarked (length (untaken c)) next old new
AfterTelling stands (Err e) core old new front c next InPart =
    (stands core front next × (next.done ≡ Some e))
    ⊎ ((e ≡ end.OutOfMemory) × (d : Client) × InPart d × stands core front d)

abbrev pub Tells : {C : Type 0} → (C → List ℕ → Client → Type 0) → Result (Unit {0}) ClientEnd → C
    → C → Watch → Watch → (Client → Client) → (Client → Client → Type 0) → Type 0
Tells stands result core core' old new next InPart =
    (front : List ℕ) (c : Client) → c.done ≡ None → stands core front c
    → AfterTelling stands result core' old new front c (next c) (InPart c)
