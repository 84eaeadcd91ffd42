-- Acts that bring no turn and move no stream.
use Rattle.std.proofs.Common.{◌≡◌, refl, ℕ, ◌+◌, Bool, true, false, cond, List, [], arith}
use Rattle.std.specs.Prelude.{Result, nat_lt}
use Rattle.std.proofs.lemmas.Bool.Decides.{nat_tests}
use Rattle.hub_acts.specs.declared.act.Act.TheVariants as act
use Rattle.hub_acts.specs.declared.answers.CallFault.{CallFault}
use Rattle.hub_acts.specs.declared.answers.Waited.{Waited}
use Rattle.hub_acts.specs.declared.answers.Waited.TheVariants as waited
use Rattle.hub_acts.specs.declared.answers.AcceptAnswer.TheVariants as accepted
use Rattle.hub_acts.specs.declared.answers.ReadAnswer.{ReadAnswer}
use Rattle.hub_acts.specs.declared.answers.ReadAnswer.TheVariants as read
use Rattle.hub_acts.specs.declared.answers.WriteAnswer.{WriteAnswer}
use Rattle.hub_acts.specs.declared.answers.WriteAnswer.TheVariants as written
use Rattle.hub_mem.specs.Answers.{accept_answer}
use Rattle.hub_mem.specs.Standing.{IsQuiet, IsNoTurn, IsNoByte, IsNotTaken}

pub quiet-listen : (port joined latest : ℕ) (answer : Result (Unit {0}) CallFault) → IsQuiet (act.Listen port answer) joined latest
quiet-listen port joined latest answer = record { brings = refl; moves = λ s. refl; grows = omega arith; within = λ h. h }

pub quiet-now : (moment joined latest : ℕ) → IsQuiet (act.Now moment) joined latest
quiet-now moment joined latest = record { brings = refl; moves = λ s. refl; grows = omega arith; within = λ h. h }

pub quiet-close : (serial joined latest : ℕ) → IsQuiet (act.Close serial) joined latest
quiet-close serial joined latest = record { brings = refl; moves = λ s. refl; grows = omega arith; within = λ h. h }

pub quiet-wait : (ms joined latest : ℕ) (answer : Waited) → IsNoTurn answer → IsQuiet (act.Wait ms answer []) joined latest
quiet-wait ms joined latest waited.Ready n = absurd n
quiet-wait ms joined latest waited.Over n = record { brings = refl; moves = λ s. refl; grows = omega arith; within = λ h. h }
quiet-wait ms joined latest waited.Failed n = record { brings = refl; moves = λ s. refl; grows = omega arith; within = λ h. h }
quiet-wait ms joined latest waited.OutOfMemory n = absurd n

pub quiet-read : (serial room joined latest : ℕ) (answer : ReadAnswer) → IsNoByte answer → IsQuiet (act.Read serial room answer []) joined latest
quiet-read serial room joined latest (read.Got n) k = absurd k
quiet-read serial room joined latest read.End k = record { brings = refl; moves = λ s. refl; grows = omega arith; within = λ h. h }
quiet-read serial room joined latest read.NotNow k = record { brings = refl; moves = λ s. refl; grows = omega arith; within = λ h. h }
quiet-read serial room joined latest read.Failed k = record { brings = refl; moves = λ s. refl; grows = omega arith; within = λ h. h }
quiet-read serial room joined latest read.OutOfMemory k = absurd k

pub quiet-write : (serial joined latest : ℕ) (bytes : List ℕ) (answer : WriteAnswer) → IsNotTaken answer → IsQuiet (act.Write serial bytes answer) joined latest
quiet-write serial joined latest bytes (written.Took n) k = absurd k
quiet-write serial joined latest bytes written.NotNow k = record { brings = refl; moves = λ s. refl; grows = omega arith; within = λ h. h }
quiet-write serial joined latest bytes written.Failed k = record { brings = refl; moves = λ s. refl; grows = omega arith; within = λ h. h }
quiet-write serial joined latest bytes written.OutOfMemory k = absurd k

accept_by : (b : Bool) (joined latest : ℕ) → nat_lt latest joined ≡ b → IsQuiet (act.Accept (cond b (accepted.New (latest + 1)) accepted.NotNow)) joined latest
accept_by true joined latest e = record { brings = refl; moves = λ s. refl; grows = omega arith; within = λ h. grind (arith, nat_tests, e) }
accept_by false joined latest e = record { brings = refl; moves = λ s. refl; grows = omega arith; within = λ h. h }

pub quiet-accept : (fails : Bool) (joined latest : ℕ) → IsQuiet (act.Accept (cond fails accepted.Failed (accept_answer latest joined))) joined latest
quiet-accept true joined latest = record { brings = refl; moves = λ s. refl; grows = omega arith; within = λ h. h }
quiet-accept false joined latest = accept_by (nat_lt latest joined) joined latest refl
