-- What each call on a link in memory answers: the act that its trace gives.
use Rattle.std.specs.Prelude.{ℕ, Bool, ◌&&◌, if◌then◌else◌, List, [], ◌∷◌, length, take, Option, Some, None}
use Rattle.std.specs.List.{list_any}
use Rattle.script_screen.specs.declared.trace.TraceLine.{TraceLine}
use Rattle.hub_acts.specs.declared.act.Act.{Act}
use Rattle.hub_acts.specs.declared.act.Act.TheVariants as act
use Rattle.hub_acts.specs.declared.answers.LinkWaited.{LinkWaited}
use Rattle.hub_acts.specs.declared.answers.LinkWaited.TheVariants as waited
use Rattle.hub_acts.specs.declared.answers.ReadAnswer.{ReadAnswer}
use Rattle.hub_acts.specs.declared.answers.ReadAnswer.TheVariants as read
use Rattle.hub_acts.specs.declared.answers.WriteAnswer.{WriteAnswer}
use Rattle.hub_acts.specs.declared.answers.WriteAnswer.TheVariants as written
use Rattle.hub_acts.specs.Links.{LinkState}
use Rattle.hub_mem.specs.Stories.{clock_in, next_turn}
use Rattle.hub_mem.specs.Streams.{Stream, front_length}
use Rattle.hub_mem.specs.Answers.{Played, story, tally, is_to_fail, listen_given, makes_readable, makes_writable, end_if_read, write_answer}
use Rattle.link_mem.specs.LinkStreams.{LinkStream, link_in}

-- all is known of it
abbrev pub link_state : Played → LinkState
link_state p =
    record { acts = Some p.acts; faults = (tally p).faults; breaks = (tally p).breaks }

abbrev pub link_of : Played → LinkStream
link_of p = link_in (story p).scenes

-- a connect fails by its number alone, as a listen does
abbrev pub trace_connect : Played → List ℕ → ℕ → Act
trace_connect p host port = act.LinkConnect host port (listen_given p)

-- what the lines of a turn make connection 1 ready for, where it is open
abbrev pub ready_by : Bool → List TraceLine → LinkWaited
ready_by is_open turn =
    waited.Ready (is_open && list_any (makes_readable 1) turn)
    (is_open && list_any (makes_writable 1) turn)

-- the next turn comes; after the last the trace is over
abbrev pub turn_given : Bool → List TraceLine → LinkWaited
turn_given is_open [] = waited.Over
turn_given is_open (l ∷ ls) = ready_by is_open (next_turn (l ∷ ls))

abbrev pub link_wait_given : Played → LinkWaited
link_wait_given p =
    if is_to_fail p then waited.Failed else turn_given (link_of p).is_open (story p).ahead

-- whatever the timeout is
abbrev pub trace_link_wait : Played → ℕ → Act
trace_link_wait p ms = act.LinkWait ms (link_wait_given p)

abbrev pub trace_link_now : Played → Act
trace_link_now p = act.LinkNow (clock_in (story p).scenes)

-- what is there comes first, up to the buffer, and then the end
abbrev pub link_end_given : Played → Option ReadAnswer
link_end_given p = if is_to_fail p then Some read.Failed else end_if_read (link_of p).stream

abbrev pub link_front_read : ℕ → Stream → Act
link_front_read room s =
    act.LinkRead room (read.Got (front_length room s)) (take (front_length room s) s.unread)

abbrev pub link_read_of : ℕ → Option ReadAnswer → Stream → Act
link_read_of room (Some answer) s = act.LinkRead room answer []
link_read_of room None s = link_front_read room s

abbrev pub trace_link_read : Played → ℕ → Act
trace_link_read p room = link_read_of room (link_end_given p) (link_of p).stream

abbrev pub link_write_given : Played → ℕ → WriteAnswer
link_write_given p offered =
    if is_to_fail p then written.Failed else write_answer offered (link_of p).stream

abbrev pub trace_link_write : Played → List ℕ → Act
trace_link_write p bytes = act.LinkWrite bytes (link_write_given p (length bytes))
