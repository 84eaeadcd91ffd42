use Rattle.held_inputs.proofs.injector.Injector.apply.Goals as goal

pub returns-clause-prints : goal.returns-clause-prints
returns-clause-prints c = rw c.new-lines.ensures at c.apply_to.ensures.prints
