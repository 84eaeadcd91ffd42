use Rattle.held_inputs.proofs.ReleaseTexts.{fresh}
use Rattle.held_inputs.proofs.injector.Injector.new.Goals as goal

pub returns : goal.returns
returns c = fresh c.args.map c.new.result c.new.ensures.keys c.new.ensures.buttons
