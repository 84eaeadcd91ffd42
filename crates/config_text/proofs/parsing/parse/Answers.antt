use Rattle.std.proofs.Common.{ℕ, List, Result, Ok, Err, subst}
use Rattle.std.specs.Prelude.{IfOk, IfErr}
use Rattle.config_text.specs.declared.faults.ConfigRefusal.{ConfigRefusal}
use Rattle.config_text.specs.declared.faults.ConfigFault.{ConfigFault}
use Rattle.config_text.specs.declared.faults.ConfigFault.TheVariants as fault
use Rattle.screen_config.specs.Configurations.{Configuration}
use Rattle.config_text.specs.Lines.{reading}
use Rattle.config_text.specs.Answering.{Answers, RefusesBy}
use Rattle.config_text.specs.Accepting.{Accepts}
use Rattle.config_text.proofs.Acceptance.{accepts, accepted, refuses, refused_so}
use Rattle.config_text.proofs.parsing.parse.Goals as goal

found_of : (r : Result Configuration ConfigFault) (text : List ℕ)
    → Answers (λ c. c) r (reading text) → IfOk r (Accepts text)
found_of (Ok c) text h = accepts text c h
found_of (Err e) text h = tt

refused_of : (r : Result Configuration ConfigFault) (text : List ℕ)
    → Answers {Y = Configuration} (λ c. c) r (reading text) → IfErr r (RefusesBy text)
refused_of (Ok c) text h = tt
refused_of (Err (fault.Refused x)) text h = refuses text x h
refused_of (Err fault.OutOfMemory) text h = tt

pub returns-clause-found : goal.returns-clause-found
returns-clause-found c = found_of c.read.result c.args.text.now c.read.ensures

pub returns-clause-only : goal.returns-clause-only
returns-clause-only c config a =
    subst (λ (x : Result Configuration ConfigRefusal). Answers (λ k. k) c.read.result x)
    (accepted c.args.text.now config a) c.read.ensures

pub returns-clause-refused : goal.returns-clause-refused
returns-clause-refused c = refused_of c.read.result c.args.text.now c.read.ensures

pub returns-clause-refuses : goal.returns-clause-refuses
returns-clause-refuses c r a =
    subst (λ (x : Result Configuration ConfigRefusal). Answers (λ k. k) c.read.result x)
    (refused_so c.args.text.now r a) c.read.ensures
