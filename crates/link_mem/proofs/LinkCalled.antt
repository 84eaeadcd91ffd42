-- A call on a link in memory that made an act, or none: what it told, and that it led on.
use Rattle.std.proofs.Common.{◌≡◌, ◌∙◌, ap, sym, refl, subst, ℕ, List, [], length}
use Rattle.std.specs.Prelude.{Option, Some, None, Result, Ok, Err}
use Rattle.share_base.specs.declared.out_of_memory.OutOfMemory.{OutOfMemory}
use Rattle.hub_acts.specs.declared.act.Act.{Act}
use Rattle.hub_acts.specs.declared.act.Act.TheVariants as act
use Rattle.hub_acts.specs.declared.answers.CallFault.{CallFault}
use Rattle.hub_acts.specs.declared.answers.CallFault.TheVariants as fault
use Rattle.hub_acts.specs.declared.answers.LinkWaited.{LinkWaited}
use Rattle.hub_acts.specs.declared.answers.LinkWaited.TheVariants as waited
use Rattle.hub_acts.specs.declared.answers.ReadAnswer.{ReadAnswer}
use Rattle.hub_acts.specs.declared.answers.ReadAnswer.TheVariants as read
use Rattle.hub_acts.specs.declared.answers.WriteAnswer.{WriteAnswer}
use Rattle.hub_acts.specs.declared.answers.WriteAnswer.TheVariants as written
use Rattle.hub_acts.specs.Acts.{add_act, bytes_read}
use Rattle.hub_acts.specs.LinkActs.{connect_act, link_wait_act, link_now_act, link_read_act, link_write_act, link_close_act}
use Rattle.hub_acts.specs.Counting.{Counts, is_fault, is_break}
use Rattle.hub_acts.specs.Links.{LinkCalls}
use Rattle.hub_mem.specs.Tallies.{Tally, tally_of}
use Rattle.hub_mem.specs.Streams.{Stream}
use Rattle.hub_mem.specs.Answers.{Played, Plays}
use Rattle.hub_mem.proofs.AddedActs.{tally_more, counts, within_all}
use Rattle.hub_mem.proofs.PlayedCalls.{none-plays, one-plays}
use Rattle.link_mem.specs.LinkAnswers.{link_state, link_of, link_end_given, link_read_of, trace_connect, trace_link_wait, trace_link_now, trace_link_read, trace_link_write}
use Rattle.link_mem.specs.LinkPlaying.{LinkPlaysOn, link_given_by}

-- ---- what it told

pub link-calls : (made : Option Act) (old new : Played) → new ≡ record old { acts = add_act made old.acts }
    → LinkCalls made (link_state old) (link_state new)
link-calls None old new e =
    subst (λ (p : Played). LinkCalls None (link_state old) (link_state p)) (sym e)
    (record { acts = refl; faults = refl; breaks = refl })
link-calls (Some a) old new e =
    subst (λ (p : Played). LinkCalls (Some a) (link_state old) (link_state p)) (sym e) (record {
      acts = refl;
      faults =
          subst (λ (t : Tally). Counts (is_fault a) (tally_of old.acts).faults t.faults)
          (sym (tally_more old.acts a))
          (counts (is_fault a) (tally_of old.acts).faults (within_all old.acts).faults);
      breaks =
          subst (λ (t : Tally). Counts (is_break a) (tally_of old.acts).breaks t.breaks)
          (sym (tally_more old.acts a))
          (counts (is_break a) (tally_of old.acts).breaks (within_all old.acts).breaks);
    })

-- ---- that it led on

none_led : (expected : Act) (p q : Played) → Plays expected None p q → LinkPlaysOn p q
none_led expected p q h = none-plays link_given_by expected p q h

act_led : (expected a : Act) (p q : Played) → link_given_by p a ≡ expected
    → Plays expected (Some a) p q → LinkPlaysOn p q
act_led expected a p q e h = one-plays link_given_by expected a p q e h

pub connected-on : (host : List ℕ) (port : ℕ) (answer : Result (Unit {0}) CallFault) (p q : Played)
    → Plays (trace_connect p host port) (connect_act host port answer) p q → LinkPlaysOn p q
connected-on host port (Err fault.OutOfMemory) p q h = none_led (trace_connect p host port) p q h
connected-on host port (Err fault.Failed) p q h =
    act_led (trace_connect p host port) (act.LinkConnect host port (Err fault.Failed)) p q refl h
connected-on host port (Ok done) p q h =
    act_led (trace_connect p host port) (act.LinkConnect host port (Ok done)) p q refl h

pub link-waited-on : (ms : ℕ) (answer : LinkWaited) (p q : Played)
    → Plays (trace_link_wait p ms) (link_wait_act ms answer) p q → LinkPlaysOn p q
link-waited-on ms waited.OutOfMemory p q h = none_led (trace_link_wait p ms) p q h
link-waited-on ms (waited.Ready readable writable) p q h =
    act_led (trace_link_wait p ms) (act.LinkWait ms (waited.Ready readable writable)) p q refl h
link-waited-on ms waited.Over p q h =
    act_led (trace_link_wait p ms) (act.LinkWait ms waited.Over) p q refl h
link-waited-on ms waited.Failed p q h =
    act_led (trace_link_wait p ms) (act.LinkWait ms waited.Failed) p q refl h

pub link-asked : (answer : Result ℕ OutOfMemory) (p q : Played)
    → Plays (trace_link_now p) (link_now_act answer) p q → LinkPlaysOn p q
link-asked (Ok moment) p q h = act_led (trace_link_now p) (act.LinkNow moment) p q refl h
link-asked (Err e) p q h = none_led (trace_link_now p) p q h

-- the room of a read
abbrev room_of : Act → ℕ
room_of (act.LinkRead room answer bytes) = room
room_of a = 0

room_read : (room : ℕ) (end : Option ReadAnswer) (s : Stream) → room_of (link_read_of room end s) ≡ room
room_read room (Some answer) s = refl
room_read room None s = refl

read_led : (room other : ℕ) (answer : ReadAnswer) (bytes : List ℕ) (p q : Played)
    → Plays (trace_link_read p room) (Some (act.LinkRead other answer bytes)) p q → LinkPlaysOn p q
read_led room other answer bytes p q h =
    let same : other ≡ room = ap room_of h.answers ∙ room_read room (link_end_given p) (link_of p).stream in
    act_led (trace_link_read p room) (act.LinkRead other answer bytes) p q (ap (trace_link_read p) same) h

pub link-read-on : (room : ℕ) (buf : List ℕ) (answer : ReadAnswer) (p q : Played)
    → Plays (trace_link_read p room) (link_read_act buf answer) p q → LinkPlaysOn p q
link-read-on room buf read.OutOfMemory p q h = none_led (trace_link_read p room) p q h
link-read-on room buf (read.Got n) p q h =
    read_led room (length buf) (read.Got n) (bytes_read (read.Got n) buf) p q h
link-read-on room buf read.End p q h = read_led room (length buf) read.End [] p q h
link-read-on room buf read.NotNow p q h = read_led room (length buf) read.NotNow [] p q h
link-read-on room buf read.Failed p q h = read_led room (length buf) read.Failed [] p q h

pub link-written-on : (bytes : List ℕ) (answer : WriteAnswer) (p q : Played)
    → Plays (trace_link_write p bytes) (link_write_act bytes answer) p q → LinkPlaysOn p q
link-written-on bytes written.OutOfMemory p q h = none_led (trace_link_write p bytes) p q h
link-written-on bytes (written.Took n) p q h =
    act_led (trace_link_write p bytes) (act.LinkWrite bytes (written.Took n)) p q refl h
link-written-on bytes written.NotNow p q h =
    act_led (trace_link_write p bytes) (act.LinkWrite bytes written.NotNow) p q refl h
link-written-on bytes written.Failed p q h =
    act_led (trace_link_write p bytes) (act.LinkWrite bytes written.Failed) p q refl h

pub link-closed-on : (answer : Result (Unit {0}) OutOfMemory) (p q : Played)
    → Plays act.LinkClose (link_close_act answer) p q → LinkPlaysOn p q
link-closed-on (Ok done) p q h = act_led act.LinkClose act.LinkClose p q refl h
link-closed-on (Err e) p q h = none_led act.LinkClose p q h
