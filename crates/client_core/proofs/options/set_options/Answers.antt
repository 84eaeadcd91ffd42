use Rattle.client_core.proofs.Pairs.{sets-first, sets-next, sets-all}
use Rattle.client_core.proofs.options.set_options.Goals as goal

pub loop-code-init : goal.loop-code-init
loop-code-init c = λ s h. sets-first _ s _ h

pub loop-code-preserved : goal.loop-code-preserved
loop-code-preserved c = λ s h. sets-next _ _ s _ _ _ _ _ c.in-Some.ensures c.set_option.ensures (c.loop-code.invariant s h)

pub returns : goal.returns
returns c = λ s h. sets-all _ s _ _ c.in_default.ensures (c.loop-code.invariant s h)
