use Rattle.std.proofs.Common.{length}
use Rattle.held_inputs.specs.Screen.{Screen}
use Rattle.held_inputs.specs.Stands.{Stands}
use Rattle.client_core.proofs.Pairs.{Sets}
use Rattle.client_core.proofs.options.set_options.Given as goal

abbrev pub invariant-loop-code : goal.invariant-loop-code
invariant-loop-code l = (s : Screen) → Stands l.fn.injector s → Sets l.injector s l.rest l.words

abbrev pub decreases-loop-code : goal.decreases-loop-code
decreases-loop-code l = length l.rest
