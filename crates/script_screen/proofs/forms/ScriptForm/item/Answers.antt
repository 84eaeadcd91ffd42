use Rattle.std.proofs.Common.{refl}
use Rattle.script_screen.specs.Forms.{script_row}
use Rattle.script_screen.specs.Grammar.{arguments_of}
use Rattle.script_screen.proofs.forms.ScriptForm.item.Goals as goal

pub returns-in-SaverOn-clause-gives : goal.returns-in-SaverOn-clause-gives
unfolding script_row arguments_of
returns-in-SaverOn-clause-gives c = rw c.in-SaverOn.is refl

pub returns-in-SaverOff-clause-gives : goal.returns-in-SaverOff-clause-gives
unfolding script_row arguments_of
returns-in-SaverOff-clause-gives c = rw c.in-SaverOff.is refl

pub returns-in-Quit-clause-gives : goal.returns-in-Quit-clause-gives
unfolding script_row arguments_of
returns-in-Quit-clause-gives c = rw c.in-Quit.is refl
