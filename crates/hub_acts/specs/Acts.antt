-- The act that a call on a hub makes. A call that is out of memory makes none.
use Rattle.std.specs.Prelude.{ℕ, List, [], ◌++◌, ◌∷◌, take, length, Option, Some, None, Result, Ok, Err}
use Rattle.std.specs.Option.{option_map}
use Rattle.share_base.specs.declared.out_of_memory.OutOfMemory.{OutOfMemory}
use Rattle.hub_acts.specs.declared.act.Act.{Act}
use Rattle.hub_acts.specs.declared.act.Act.TheVariants as act
use Rattle.hub_acts.specs.declared.answers.CallFault.{CallFault}
use Rattle.hub_acts.specs.declared.answers.CallFault.TheVariants as fault
use Rattle.hub_acts.specs.declared.answers.Waited.{Waited}
use Rattle.hub_acts.specs.declared.answers.Waited.TheVariants as waited
use Rattle.hub_acts.specs.declared.answers.AcceptAnswer.{AcceptAnswer}
use Rattle.hub_acts.specs.declared.answers.AcceptAnswer.TheVariants as accepted
use Rattle.hub_acts.specs.declared.answers.ReadAnswer.{ReadAnswer}
use Rattle.hub_acts.specs.declared.answers.ReadAnswer.TheVariants as read
use Rattle.hub_acts.specs.declared.answers.WriteAnswer.{WriteAnswer}
use Rattle.hub_acts.specs.declared.answers.WriteAnswer.TheVariants as written
use Rattle.hub_acts.specs.declared.marks.Mark.{Mark}

-- ---- lists of acts, which are known or not

abbrev pub add_act : Option Act → List Act → List Act
add_act None acts = acts
add_act (Some a) acts = acts ++ a ∷ []

abbrev pub known_after : Option Act → Option (List Act) → Option (List Act)
known_after made acts = option_map (add_act made) acts

-- ---- calls on a hub

abbrev pub listen_act : ℕ → Result (Unit {0}) CallFault → Option Act
listen_act port (Err fault.OutOfMemory) = None
listen_act port answer = Some (act.Listen port answer)

abbrev pub wait_act : ℕ → List Mark → Waited → Option Act
wait_act ms marks waited.OutOfMemory = None
wait_act ms marks answer = Some (act.Wait ms answer marks)

abbrev pub now_act : Result ℕ OutOfMemory → Option Act
now_act (Ok moment) = Some (act.Now moment)
now_act (Err e) = None

abbrev pub accept_act : AcceptAnswer → Option Act
accept_act accepted.OutOfMemory = None
accept_act answer = Some (act.Accept answer)

-- what a read left in the front of its buffer
abbrev pub bytes_read : ReadAnswer → List ℕ → List ℕ
bytes_read (read.Got n) buf = take n buf
bytes_read answer buf = []

abbrev pub read_act : ℕ → List ℕ → ReadAnswer → Option Act
read_act serial buf read.OutOfMemory = None
read_act serial buf answer = Some (act.Read serial (length buf) answer (bytes_read answer buf))

abbrev pub write_act : ℕ → List ℕ → WriteAnswer → Option Act
write_act serial bytes written.OutOfMemory = None
write_act serial bytes answer = Some (act.Write serial bytes answer)

abbrev pub close_act : ℕ → Result (Unit {0}) OutOfMemory → Option Act
close_act serial (Ok done) = Some (act.Close serial)
close_act serial (Err e) = None
