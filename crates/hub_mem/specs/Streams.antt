-- One stream: what can be read from it, how it ends, and what it takes.
use Rattle.std.specs.Prelude.{ℕ, ◌-◌, Bool, true, false, not, ◌&&◌, ◌==◌, if◌then◌else◌, List, [], ◌++◌, drop, length, min, Option, Some, None}
use Rattle.std.specs.List.{fold}
use Rattle.std.specs.Option.{option_map}
use Rattle.script_screen.specs.declared.trace.TraceLine.{TraceLine}
use Rattle.script_screen.specs.declared.trace.TraceLine.TheVariants as line
use Rattle.script_screen.specs.Traces.{is_join}
use Rattle.hub_acts.specs.declared.act.Act.{Act}
use Rattle.hub_acts.specs.declared.act.Act.TheVariants as act
use Rattle.hub_acts.specs.declared.answers.ReadAnswer.TheVariants as read
use Rattle.hub_acts.specs.declared.answers.WriteAnswer.TheVariants as written
use Rattle.hub_mem.specs.Stories.{Scene, Came, Made}

pub record Stream : Type 0 where
  pub unread : List ℕ  -- the bytes that came and were not read
  pub has_ended : Bool
  pub has_failed : Bool
  pub room : Option ℕ  -- how many bytes more it takes, none where there is no limit

abbrev pub new_stream : Stream
new_stream = record { unread = []; has_ended = false; has_failed = false; room = None }

-- ---- what changes it

-- a line for it. One that joins makes it new: what the trace says of it before does nothing
abbrev pub heard : TraceLine → Stream → Stream
heard (line.Turn t) s = s
heard (line.Join c) s = new_stream
heard (line.Got c bytes) s = record s { unread = s.unread ++ bytes }
heard (line.End c) s = record s { has_ended = true }
heard (line.Fail c) s = record s { has_failed = true }
heard (line.Room c room) s = record s { room = Some room }

-- how many bytes a read into a buffer of that length gives
abbrev pub front_length : ℕ → Stream → ℕ
front_length room s = min room (length s.unread)

abbrev pub with_read : ℕ → Stream → Stream
with_read n s = record s { unread = drop n s.unread }

abbrev pub with_taken : ℕ → Stream → Stream
with_taken n s = record s { room = option_map (λ r. r - n) s.room }

-- an act on it
abbrev pub moved : Act → Stream → Stream
moved (act.Read serial room (read.Got n) bytes) s = with_read n s
moved (act.LinkRead room (read.Got n) bytes) s = with_read n s
moved (act.Write serial bytes (written.Took n)) s = with_taken n s
moved (act.LinkWrite bytes (written.Took n)) s = with_taken n s
moved a s = s

-- ---- whose lines and acts they are

pub record Role : Type 0 where
  pub has_line : TraceLine → Bool
  pub has_act : Act → Bool

abbrev pub is_at : Option ℕ → ℕ → Bool
is_at None c = false
is_at (Some d) c = d == c

abbrev pub names : ℕ → TraceLine → Bool
names c (line.Turn t) = false
names c (line.Join d) = d == c
names c (line.Got d bytes) = d == c
names c (line.End d) = d == c
names c (line.Fail d) = d == c
names c (line.Room d room) = d == c

abbrev pub acts_on : ℕ → Act → Bool
acts_on c (act.Read d room answer bytes) = d == c
acts_on c (act.Write d bytes answer) = d == c
acts_on c a = false

-- a hub's connection of that serial
abbrev pub connection_of : ℕ → Role
connection_of c = record { has_line = names c; has_act = acts_on c }

-- a link's stream is there from the start: lines that join do nothing
abbrev pub is_for_link : TraceLine → Bool
is_for_link l = names 1 l && not (is_join l)

abbrev pub link_stream : Role
link_stream = record { has_line = is_for_link; has_act = λ a. true }

abbrev pub stream_after : Role → Stream → Scene → Stream
stream_after role s (Came l) = if role.has_line l then heard l s else s
stream_after role s (Made a) = if role.has_act a then moved a s else s

abbrev pub stream_in : Role → List Scene → Stream
stream_in role scenes = fold (stream_after role) new_stream scenes
