-- Attentive acts on a link: each is the one that is due, judged by the flags and the client
-- directly before it.
use Rattle.std.specs.Prelude.{◌≡◌, ℕ, ◌-◌, min, true, ◌||◌, nat_le, if◌then◌else◌, List, [], ◌∷◌, length, take}
use Rattle.hub_acts.specs.declared.act.Act.{Act}
use Rattle.hub_acts.specs.declared.act.Act.TheVariants as act
use Rattle.hub_acts.specs.declared.answers.ReadAnswer.{ReadAnswer}
use Rattle.hub_acts.specs.declared.answers.ReadAnswer.TheVariants as read
use Rattle.hub_acts.specs.Hubs.{FitsRead, FitsWrite}
use Rattle.client_core.specs.Clients.{Client}
use Rattle.client_core.specs.Happenings.{untaken, due_of, moment_of}
use Rattle.attentive_links.specs.Telling.{client_after}
use Rattle.attentive_links.specs.Flags.{Flags, first_flags, flags_after, is_busy, is_readable, is_writable}
use Rattle.attentive_links.specs.Places.{Place, Waits, Asks, Reads, Writes, Stops, place_after}

-- what an act is judged by
pub record Judge : Type 0 where
  pub flags : Flags
  pub client : Client
  pub place : Place

-- before the first act
abbrev pub first_judge : Client → Judge
first_judge c = record { flags = first_flags; client = c; place = Waits }

-- ---- what is due

-- the longest wait, in milliseconds
abbrev pub longest_wait : ℕ
longest_wait = 1000

-- the client's due moment, and its own
abbrev pub due : Client → ℕ
due c = due_of c.done c.talk

abbrev pub moment : Client → ℕ
moment c = moment_of c.talk

-- none where something is undrained or due
abbrev pub timeout : Flags → Client → ℕ
timeout fs c =
    if is_busy fs c || nat_le (due c) (moment c) then 0 else min longest_wait (due c - moment c)

-- the most bytes that one read or write moves
abbrev pub most_moved : ℕ
most_moved = 65536

-- the bytes that one write offers: the first untaken ones
abbrev pub piece_of : Client → List ℕ
piece_of c = take most_moved (untaken c)

-- a read gives as many bytes as it says
abbrev pub HasBytes : ReadAnswer → List ℕ → Type 0
HasBytes (read.Got n) bytes = length bytes ≡ n
HasBytes answer bytes = bytes ≡ []

-- ---- the acts that are due

abbrev pub AllowsWait : Judge → Act → Type 0
AllowsWait j (act.LinkWait ms answer) = ms ≡ timeout j.flags j.client
AllowsWait j a = ⊥

abbrev pub AllowsNow : Act → Type 0
AllowsNow (act.LinkNow moment) = Unit {0}
AllowsNow a = ⊥

abbrev pub AllowsRead : Judge → Act → Type 0
AllowsRead j (act.LinkRead room answer bytes) =
    (room ≡ most_moved) × FitsRead answer room × HasBytes answer bytes
    × (is_readable j.flags j.client ≡ true)
AllowsRead j a = ⊥

abbrev pub AllowsWrite : Judge → Act → Type 0
AllowsWrite j (act.LinkWrite bytes answer) =
    (bytes ≡ piece_of j.client) × FitsWrite answer (length bytes)
    × (is_writable j.flags j.client ≡ true)
AllowsWrite j a = ⊥

abbrev pub AllowsAt : Place → Judge → Act → Type 0
AllowsAt Waits j a = AllowsWait j a
AllowsAt Asks j a = AllowsNow a
AllowsAt Reads j a = AllowsRead j a
AllowsAt Writes j a = AllowsWrite j a
AllowsAt Stops j a = ⊥

abbrev pub Allows : Judge → Act → Type 0
Allows j a = AllowsAt j.place j a

-- ---- lists of acts

abbrev pub judge_after : Judge → Act → Judge
judge_after j a =
    let next : Client = client_after a j.client in
    let fs : Flags = flags_after a j.client next j.flags in
    record { flags = fs; client = next; place = place_after j.place a fs next }

abbrev pub judged : Judge → List Act → Judge
judged j [] = j
judged j (a ∷ acts) = judged (judge_after j a) acts

-- each act is due where it stands. A front of such acts is such too
abbrev pub Follows : Judge → List Act → Type 0
Follows j [] = Unit {0}
Follows j (a ∷ acts) = Allows j a × Follows (judge_after j a) acts
