-- Calls one after another on a link in memory: the trace gives the answer of each.
use Rattle.std.specs.Prelude.{List}
use Rattle.hub_acts.specs.declared.act.Act.{Act}
use Rattle.hub_acts.specs.declared.act.Act.TheVariants as act
use Rattle.hub_mem.specs.Answers.{Played}
use Rattle.hub_mem.specs.Playing.{AreGivenBy, PlaysBy, no-calls-play, more-calls-play}
use Rattle.link_mem.specs.LinkAnswers.{trace_connect, trace_link_wait, trace_link_now, trace_link_read, trace_link_write}

-- the act that this act's call makes, by the trace; one of a hub is none of a link
abbrev pub link_given_by : Played → Act → Act
link_given_by p (act.LinkConnect host port answer) = trace_connect p host port
link_given_by p (act.LinkWait ms answer) = trace_link_wait p ms
link_given_by p (act.LinkNow moment) = trace_link_now p
link_given_by p (act.LinkRead room answer bytes) = trace_link_read p room
link_given_by p (act.LinkWrite bytes answer) = trace_link_write p bytes
link_given_by p a = a

-- each of these acts, made after those before it, is the one that the trace gives
abbrev pub LinkAreGiven : Played → List Act → Type 0
LinkAreGiven p acts = AreGivenBy link_given_by p acts

-- calls led from the one to the other
abbrev pub LinkPlaysOn : Played → Played → Type 0
LinkPlaysOn old new = PlaysBy link_given_by old new

pub link_plays_stay : (p : Played) → LinkPlaysOn p p
link_plays_stay p = no-calls-play link_given_by p

pub link_plays_go_on : (p q r : Played) → LinkPlaysOn p q → LinkPlaysOn q r → LinkPlaysOn p r
link_plays_go_on p q r h k = more-calls-play link_given_by p q r h k
