-- The act that a call on a link makes. A call that is out of memory makes none.
use Rattle.std.specs.Prelude.{ℕ, List, length, Option, Some, None, Result, Ok, Err}
use Rattle.share_base.specs.declared.out_of_memory.OutOfMemory.{OutOfMemory}
use Rattle.hub_acts.specs.declared.act.Act.{Act}
use Rattle.hub_acts.specs.declared.act.Act.TheVariants as act
use Rattle.hub_acts.specs.declared.answers.CallFault.{CallFault}
use Rattle.hub_acts.specs.declared.answers.CallFault.TheVariants as fault
use Rattle.hub_acts.specs.declared.answers.LinkWaited.{LinkWaited}
use Rattle.hub_acts.specs.declared.answers.LinkWaited.TheVariants as waited
use Rattle.hub_acts.specs.declared.answers.ReadAnswer.{ReadAnswer}
use Rattle.hub_acts.specs.declared.answers.ReadAnswer.TheVariants as read
use Rattle.hub_acts.specs.declared.answers.WriteAnswer.{WriteAnswer}
use Rattle.hub_acts.specs.declared.answers.WriteAnswer.TheVariants as written
use Rattle.hub_acts.specs.Acts.{bytes_read}

abbrev pub connect_act : List ℕ → ℕ → Result (Unit {0}) CallFault → Option Act
connect_act host port (Err fault.OutOfMemory) = None
connect_act host port answer = Some (act.LinkConnect host port answer)

abbrev pub link_wait_act : ℕ → LinkWaited → Option Act
link_wait_act ms waited.OutOfMemory = None
link_wait_act ms answer = Some (act.LinkWait ms answer)

abbrev pub link_now_act : Result ℕ OutOfMemory → Option Act
link_now_act (Ok moment) = Some (act.LinkNow moment)
link_now_act (Err e) = None

abbrev pub link_read_act : List ℕ → ReadAnswer → Option Act
link_read_act buf read.OutOfMemory = None
link_read_act buf answer = Some (act.LinkRead (length buf) answer (bytes_read answer buf))

abbrev pub link_write_act : List ℕ → WriteAnswer → Option Act
link_write_act bytes written.OutOfMemory = None
link_write_act bytes answer = Some (act.LinkWrite bytes answer)

abbrev pub link_close_act : Result (Unit {0}) OutOfMemory → Option Act
link_close_act (Ok done) = Some act.LinkClose
link_close_act (Err e) = None
