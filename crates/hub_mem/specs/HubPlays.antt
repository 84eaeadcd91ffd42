-- What each call on a hub in memory makes of it: the act that its trace gives, or none.
use Rattle.std.specs.Prelude.{ℕ, List, Option, Result}
use Rattle.share_base.specs.declared.out_of_memory.OutOfMemory.{OutOfMemory}
use Rattle.hub_acts.specs.declared.act.Act.{Act}
use Rattle.hub_acts.specs.declared.answers.CallFault.{CallFault}
use Rattle.hub_acts.specs.declared.answers.Waited.{Waited}
use Rattle.hub_acts.specs.declared.answers.AcceptAnswer.{AcceptAnswer}
use Rattle.hub_acts.specs.declared.answers.ReadAnswer.{ReadAnswer}
use Rattle.hub_acts.specs.declared.answers.WriteAnswer.{WriteAnswer}
use Rattle.hub_acts.specs.declared.marks.Mark.{Mark}
use Rattle.hub_acts.specs.Acts.{listen_act, wait_act, now_act, accept_act, read_act, write_act, close_act}
use Rattle.hub_acts.specs.Hubs.{HubCalls}
use Rattle.hub_mem.specs.Answers.{Played, Plays, hub_state, trace_listen, trace_wait, trace_now, trace_accept, trace_read, trace_write, trace_close}

-- it tells what a call did that made this act, or none
abbrev pub MemoryHubCalls : Option Act → Played → Played → Type 0
MemoryHubCalls made old new = HubCalls made (hub_state old) (hub_state new)

abbrev pub PlaysListen : ℕ → Result (Unit {0}) CallFault → Played → Played → Type 0
PlaysListen port answer old new =
    Plays (trace_listen old port) (listen_act port answer) old new

-- the wait left these marks
abbrev pub PlaysWait : ℕ → List Mark → Waited → Played → Played → Type 0
PlaysWait ms marks answer old new = Plays (trace_wait old ms) (wait_act ms marks answer) old new

abbrev pub PlaysNow : Result ℕ OutOfMemory → Played → Played → Type 0
PlaysNow answer old new = Plays (trace_now old) (now_act answer) old new

abbrev pub PlaysAccept : AcceptAnswer → Played → Played → Type 0
PlaysAccept answer old new = Plays (trace_accept old) (accept_act answer) old new

-- the read found a buffer of that length, and left it so
abbrev pub PlaysRead : ℕ → ℕ → List ℕ → ReadAnswer → Played → Played → Type 0
PlaysRead serial room buf answer old new =
    Plays (trace_read old serial room) (read_act serial buf answer) old new

abbrev pub PlaysWrite : ℕ → List ℕ → WriteAnswer → Played → Played → Type 0
PlaysWrite serial bytes answer old new =
    Plays (trace_write old serial bytes) (write_act serial bytes answer) old new

abbrev pub PlaysClose : ℕ → Result (Unit {0}) OutOfMemory → Played → Played → Type 0
PlaysClose serial answer old new = Plays (trace_close serial) (close_act serial answer) old new
