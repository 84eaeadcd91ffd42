-- What each call on a hub in memory answers: the act that its trace gives.
use Rattle.std.specs.Prelude.{◌≡◌, ℕ, ◌+◌, min, Bool, true, false, ◌||◌, ◌==◌, nat_lt, if◌then◌else◌, List, [], ◌∷◌, ◌++◌, length, take, Option, Some, None, IfSome, Result, Ok, Err}
use Rattle.std.specs.List.{list_any, flat_map}
use Rattle.script_screen.specs.declared.trace.TraceLine.{TraceLine}
use Rattle.script_screen.specs.declared.trace.TraceLine.TheVariants as line
use Rattle.script_screen.specs.Traces.{is_join}
use Rattle.hub_acts.specs.declared.act.Act.{Act}
use Rattle.hub_acts.specs.declared.act.Act.TheVariants as act
use Rattle.hub_acts.specs.declared.marks.Mark.{Mark}
use Rattle.hub_acts.specs.declared.marks.Mark.TheVariants as mark
use Rattle.hub_acts.specs.declared.answers.CallFault.{CallFault}
use Rattle.hub_acts.specs.declared.answers.CallFault.TheVariants as fault
use Rattle.hub_acts.specs.declared.answers.Waited.TheVariants as waited
use Rattle.hub_acts.specs.declared.answers.AcceptAnswer.{AcceptAnswer}
use Rattle.hub_acts.specs.declared.answers.AcceptAnswer.TheVariants as accepted
use Rattle.hub_acts.specs.declared.answers.ReadAnswer.{ReadAnswer}
use Rattle.hub_acts.specs.declared.answers.ReadAnswer.TheVariants as read
use Rattle.hub_acts.specs.declared.answers.WriteAnswer.{WriteAnswer}
use Rattle.hub_acts.specs.declared.answers.WriteAnswer.TheVariants as written
use Rattle.hub_acts.specs.Acts.{add_act}
use Rattle.hub_acts.specs.Hubs.{HubState}
use Rattle.hub_mem.specs.Tallies.{Tally, is_failing, tally_of}
use Rattle.hub_mem.specs.Stories.{Story, story_of, next_turn, clock_in, joined_in}
use Rattle.hub_mem.specs.Streams.{Stream, connection_of, front_length, stream_in}

-- a trace, the numbers of the calls that are to fail, and the acts so far
pub record Played : Type 0 where
  pub lines : List TraceLine
  pub failing : List ℕ
  pub acts : List Act

abbrev pub story : Played → Story
story p = story_of p.lines p.acts

abbrev pub tally : Played → Tally
tally p = tally_of p.acts

-- all is known of it
abbrev pub hub_state : Played → HubState
hub_state p =
    record {
      latest = (tally p).latest;
      open_now = (tally p).serials;
      acts = Some p.acts;
      faults = (tally p).faults;
      breaks = (tally p).breaks;
    }

-- the next numbered call is to fail
abbrev pub is_to_fail : Played → Bool
is_to_fail p = is_failing (record { failing = p.failing; acts = p.acts })

-- ---- marks

abbrev pub makes_readable : ℕ → TraceLine → Bool
makes_readable c (line.Got d bytes) = d == c
makes_readable c (line.End d) = d == c
makes_readable c (line.Fail d) = d == c
makes_readable c l = false

abbrev pub makes_writable : ℕ → TraceLine → Bool
makes_writable c (line.Fail d) = d == c
makes_writable c (line.Room d room) = d == c
makes_writable c l = false

abbrev pub accept_mark : Bool → List Mark
accept_mark true = mark.Accept ∷ []
accept_mark false = []

abbrev pub stream_mark : ℕ → Bool → Bool → List Mark
stream_mark c readable writable =
    if readable || writable then mark.Stream c readable writable ∷ [] else []

abbrev pub marks_for : List TraceLine → ℕ → List Mark
marks_for turn c =
    stream_mark c (list_any (makes_readable c) turn) (list_any (makes_writable c) turn)

-- where a connection joined; and then for each open connection that the turn has a line for
abbrev pub marks_of : List TraceLine → List ℕ → List Mark
marks_of turn serials = accept_mark (list_any is_join turn) ++ flat_map (marks_for turn) serials

-- ---- answers

abbrev pub listen_given : Played → Result (Unit {0}) CallFault
listen_given p = if is_to_fail p then Err fault.Failed else Ok tt

abbrev pub trace_listen : Played → ℕ → Act
trace_listen p port = act.Listen port (listen_given p)

-- the next turn comes, whatever the timeout is; after the last the trace is over
abbrev pub turn_wait : Played → ℕ → List TraceLine → Act
turn_wait p ms [] = act.Wait ms waited.Over []
turn_wait p ms (l ∷ ls) = act.Wait ms waited.Ready (marks_of (next_turn (l ∷ ls)) (tally p).serials)

abbrev pub trace_wait : Played → ℕ → Act
trace_wait p ms =
    if is_to_fail p then act.Wait ms waited.Failed [] else turn_wait p ms (story p).ahead

abbrev pub trace_now : Played → Act
trace_now p = act.Now (clock_in (story p).scenes)

-- connections are accepted in the order in which they joined
abbrev pub accept_answer : ℕ → ℕ → AcceptAnswer
accept_answer latest joined =
    if nat_lt latest joined then accepted.New (latest + 1) else accepted.NotNow

abbrev pub accept_given : Played → AcceptAnswer
accept_given p = if is_to_fail p then accepted.Failed
    else accept_answer (tally p).latest (joined_in (story p).scenes)

abbrev pub trace_accept : Played → Act
trace_accept p = act.Accept (accept_given p)

-- what is there comes first, up to the buffer, and then the end
abbrev pub end_answer : Stream → ReadAnswer
end_answer s = if s.has_failed then read.Failed else if s.has_ended then read.End else read.NotNow

abbrev pub stream_of : Played → ℕ → Stream
stream_of p serial = stream_in (connection_of serial) (story p).scenes

abbrev pub end_if_read : Stream → Option ReadAnswer
end_if_read s = if length s.unread == 0 then Some (end_answer s) else None

abbrev pub end_given : Played → ℕ → Option ReadAnswer
end_given p serial = if is_to_fail p then Some read.Failed else end_if_read (stream_of p serial)

abbrev pub front_read : ℕ → ℕ → Stream → Act
front_read serial room s =
    act.Read serial room (read.Got (front_length room s)) (take (front_length room s) s.unread)

abbrev pub read_of : ℕ → ℕ → Option ReadAnswer → Stream → Act
read_of serial room (Some answer) s = act.Read serial room answer []
read_of serial room None s = front_read serial room s

abbrev pub trace_read : Played → ℕ → ℕ → Act
trace_read p serial room = read_of serial room (end_given p serial) (stream_of p serial)

-- the whole piece is taken, or as much of it as there is room
abbrev pub room_answer : ℕ → Option ℕ → WriteAnswer
room_answer offered None = written.Took offered
room_answer offered (Some room) =
    if room == 0 then written.NotNow else written.Took (min room offered)

abbrev pub write_answer : ℕ → Stream → WriteAnswer
write_answer offered s = if s.has_failed then written.Failed else room_answer offered s.room

abbrev pub write_given : Played → ℕ → ℕ → WriteAnswer
write_given p serial offered =
    if is_to_fail p then written.Failed else write_answer offered (stream_of p serial)

abbrev pub trace_write : Played → ℕ → List ℕ → Act
trace_write p serial bytes = act.Write serial bytes (write_given p serial (length bytes))

abbrev pub trace_close : ℕ → Act
trace_close serial = act.Close serial

-- ---- calls

-- a call that made an act made the one that was expected, and the act is added; one that made none
-- changed nothing
pub record Plays (expected : Act) (made : Option Act) (old new : Played) : Type 0 where
  pub answers : IfSome made (λ a. a ≡ expected)
  pub after : new ≡ record old { acts = add_act made old.acts }
