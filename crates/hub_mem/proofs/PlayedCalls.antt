-- A call that made an act, or none, led on.
use Rattle.std.specs.Prelude.{◌≡◌, ℕ, List, [], ◌∷◌, length, Option, Some, None, Result, Ok, Err}
use Rattle.std.proofs.Common.{refl, ap, subst, sym, ◌∙◌}
use Rattle.share_base.specs.declared.out_of_memory.OutOfMemory.{OutOfMemory}
use Rattle.hub_acts.specs.declared.act.Act.{Act}
use Rattle.hub_acts.specs.declared.act.Act.TheVariants as act
use Rattle.hub_acts.specs.declared.marks.Mark.{Mark}
use Rattle.hub_acts.specs.declared.answers.CallFault.{CallFault}
use Rattle.hub_acts.specs.declared.answers.CallFault.TheVariants as fault
use Rattle.hub_acts.specs.declared.answers.Waited.{Waited}
use Rattle.hub_acts.specs.declared.answers.Waited.TheVariants as waited
use Rattle.hub_acts.specs.declared.answers.AcceptAnswer.{AcceptAnswer}
use Rattle.hub_acts.specs.declared.answers.AcceptAnswer.TheVariants as accepted
use Rattle.hub_acts.specs.declared.answers.ReadAnswer.{ReadAnswer}
use Rattle.hub_acts.specs.declared.answers.ReadAnswer.TheVariants as read
use Rattle.hub_acts.specs.declared.answers.WriteAnswer.{WriteAnswer}
use Rattle.hub_acts.specs.declared.answers.WriteAnswer.TheVariants as written
use Rattle.hub_acts.specs.Acts.{listen_act, wait_act, now_act, accept_act, read_act, write_act, close_act, bytes_read}
use Rattle.hub_mem.specs.Streams.{Stream}
use Rattle.hub_mem.specs.Answers.{Played, Plays, trace_listen, trace_wait, trace_now, trace_accept, trace_read, trace_write, trace_close, read_of, end_given, stream_of}
use Rattle.hub_mem.specs.Playing.{PlaysBy, PlaysOn, no-calls-play, given_by}

-- ---- by any rule that gives the acts

pub none-plays : (given_act : Played → Act → Act) (expected : Act) (p q : Played)
    → Plays expected None p q → PlaysBy given_act p q
none-plays given_act expected p q h =
    subst (λ (r : Played). PlaysBy given_act p r) (sym h.after) (no-calls-play given_act p)

pub one-plays : (given_act : Played → Act → Act) (expected a : Act) (p q : Played)
    → given_act p a ≡ expected → Plays expected (Some a) p q → PlaysBy given_act p q
one-plays given_act expected a p q e h =
    subst (λ (r : Played). PlaysBy given_act p r) (sym h.after) (record {
      lines = refl;
      failing = refl;
      made = a ∷ [];
      acts = refl;
      given = (h.answers ∙ sym e, tt);
    })

-- ---- on a hub

none_led : (expected : Act) (p q : Played) → Plays expected None p q → PlaysOn p q
none_led expected p q h = none-plays given_by expected p q h

act_led : (expected a : Act) (p q : Played) → given_by p a ≡ expected → Plays expected (Some a) p q → PlaysOn p q
act_led expected a p q e h = one-plays given_by expected a p q e h

pub listened : (port : ℕ) (answer : Result (Unit {0}) CallFault) (p q : Played) → Plays (trace_listen p port) (listen_act port answer) p q → PlaysOn p q
listened port (Err fault.OutOfMemory) p q h = none_led (trace_listen p port) p q h
listened port (Err fault.Failed) p q h = act_led (trace_listen p port) (act.Listen port (Err fault.Failed)) p q refl h
listened port (Ok done) p q h = act_led (trace_listen p port) (act.Listen port (Ok done)) p q refl h

pub waited_on : (ms : ℕ) (marks : List Mark) (answer : Waited) (p q : Played) → Plays (trace_wait p ms) (wait_act ms marks answer) p q → PlaysOn p q
waited_on ms marks waited.OutOfMemory p q h = none_led (trace_wait p ms) p q h
waited_on ms marks waited.Ready p q h = act_led (trace_wait p ms) (act.Wait ms waited.Ready marks) p q refl h
waited_on ms marks waited.Over p q h = act_led (trace_wait p ms) (act.Wait ms waited.Over marks) p q refl h
waited_on ms marks waited.Failed p q h = act_led (trace_wait p ms) (act.Wait ms waited.Failed marks) p q refl h

pub asked : (answer : Result ℕ OutOfMemory) (p q : Played) → Plays (trace_now p) (now_act answer) p q → PlaysOn p q
asked (Ok moment) p q h = act_led (trace_now p) (act.Now moment) p q refl h
asked (Err e) p q h = none_led (trace_now p) p q h

pub accepted_on : (answer : AcceptAnswer) (p q : Played) → Plays (trace_accept p) (accept_act answer) p q → PlaysOn p q
accepted_on accepted.OutOfMemory p q h = none_led (trace_accept p) p q h
accepted_on (accepted.New serial) p q h = act_led (trace_accept p) (act.Accept (accepted.New serial)) p q refl h
accepted_on accepted.NotNow p q h = act_led (trace_accept p) (act.Accept accepted.NotNow) p q refl h
accepted_on accepted.Failed p q h = act_led (trace_accept p) (act.Accept accepted.Failed) p q refl h

-- the room of a read
abbrev room_of : Act → ℕ
room_of (act.Read serial room answer bytes) = room
room_of a = 0

room_read : (serial room : ℕ) (end : Option ReadAnswer) (s : Stream) → room_of (read_of serial room end s) ≡ room
room_read serial room (Some answer) s = refl
room_read serial room None s = refl

read_led : (serial room other : ℕ) (answer : ReadAnswer) (bytes : List ℕ) (p q : Played) → Plays (trace_read p serial room) (Some (act.Read serial other answer bytes)) p q → PlaysOn p q
read_led serial room other answer bytes p q h =
    let same : other ≡ room = ap room_of h.answers ∙ room_read serial room (end_given p serial) (stream_of p serial) in
    act_led (trace_read p serial room) (act.Read serial other answer bytes) p q (ap (trace_read p serial) same) h

pub read_on : (serial room : ℕ) (buf : List ℕ) (answer : ReadAnswer) (p q : Played) → Plays (trace_read p serial room) (read_act serial buf answer) p q → PlaysOn p q
read_on serial room buf read.OutOfMemory p q h = none_led (trace_read p serial room) p q h
read_on serial room buf (read.Got n) p q h = read_led serial room (length buf) (read.Got n) (bytes_read (read.Got n) buf) p q h
read_on serial room buf read.End p q h = read_led serial room (length buf) read.End [] p q h
read_on serial room buf read.NotNow p q h = read_led serial room (length buf) read.NotNow [] p q h
read_on serial room buf read.Failed p q h = read_led serial room (length buf) read.Failed [] p q h

pub written_on : (serial : ℕ) (bytes : List ℕ) (answer : WriteAnswer) (p q : Played) → Plays (trace_write p serial bytes) (write_act serial bytes answer) p q → PlaysOn p q
written_on serial bytes written.OutOfMemory p q h = none_led (trace_write p serial bytes) p q h
written_on serial bytes (written.Took n) p q h = act_led (trace_write p serial bytes) (act.Write serial bytes (written.Took n)) p q refl h
written_on serial bytes written.NotNow p q h = act_led (trace_write p serial bytes) (act.Write serial bytes written.NotNow) p q refl h
written_on serial bytes written.Failed p q h = act_led (trace_write p serial bytes) (act.Write serial bytes written.Failed) p q refl h

pub closed_on : (serial : ℕ) (answer : Result (Unit {0}) OutOfMemory) (p q : Played) → Plays (trace_close serial) (close_act serial answer) p q → PlaysOn p q
closed_on serial (Ok done) p q h = act_led (trace_close serial) (act.Close serial) p q refl h
closed_on serial (Err e) p q h = none_led (trace_close serial) p q h
