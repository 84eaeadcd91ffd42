-- What each call on a link in memory makes of it: the act that its trace gives, or none.
use Rattle.std.specs.Prelude.{ℕ, List, Option, Result}
use Rattle.share_base.specs.declared.out_of_memory.OutOfMemory.{OutOfMemory}
use Rattle.hub_acts.specs.declared.act.Act.{Act}
use Rattle.hub_acts.specs.declared.act.Act.TheVariants as act
use Rattle.hub_acts.specs.declared.answers.CallFault.{CallFault}
use Rattle.hub_acts.specs.declared.answers.LinkWaited.{LinkWaited}
use Rattle.hub_acts.specs.declared.answers.ReadAnswer.{ReadAnswer}
use Rattle.hub_acts.specs.declared.answers.WriteAnswer.{WriteAnswer}
use Rattle.hub_acts.specs.LinkActs.{connect_act, link_wait_act, link_now_act, link_read_act, link_write_act, link_close_act}
use Rattle.hub_acts.specs.Links.{LinkCalls}
use Rattle.hub_mem.specs.Answers.{Played, Plays}
use Rattle.link_mem.specs.LinkAnswers.{link_state, trace_connect, trace_link_wait, trace_link_now, trace_link_read, trace_link_write}

-- it tells what a call did that made this act, or none
abbrev pub MemoryLinkCalls : Option Act → Played → Played → Type 0
MemoryLinkCalls made old new = LinkCalls made (link_state old) (link_state new)

abbrev pub PlaysConnect : List ℕ → ℕ → Result (Unit {0}) CallFault → Played → Played → Type 0
PlaysConnect host port answer old new =
    Plays (trace_connect old host port) (connect_act host port answer) old new

abbrev pub PlaysLinkWait : ℕ → LinkWaited → Played → Played → Type 0
PlaysLinkWait ms answer old new = Plays (trace_link_wait old ms) (link_wait_act ms answer) old new

abbrev pub PlaysLinkNow : Result ℕ OutOfMemory → Played → Played → Type 0
PlaysLinkNow answer old new = Plays (trace_link_now old) (link_now_act answer) old new

-- the read found a buffer of that length, and left it so
abbrev pub PlaysLinkRead : ℕ → List ℕ → ReadAnswer → Played → Played → Type 0
PlaysLinkRead room buf answer old new =
    Plays (trace_link_read old room) (link_read_act buf answer) old new

abbrev pub PlaysLinkWrite : List ℕ → WriteAnswer → Played → Played → Type 0
PlaysLinkWrite bytes answer old new =
    Plays (trace_link_write old bytes) (link_write_act bytes answer) old new

abbrev pub PlaysLinkClose : Result (Unit {0}) OutOfMemory → Played → Played → Type 0
PlaysLinkClose answer old new = Plays act.LinkClose (link_close_act answer) old new
