use Rattle.std.proofs.Common.{[], refl, sym}
use Rattle.std.proofs.lemmas.List.{append-nil}
use Rattle.client_core.proofs.Pairs.{left-next, left-none, added-next}
use Rattle.client_core.proofs.options.add_options.Goals as goal

pub loop-code-init : goal.loop-code-init
loop-code-init c = record { all = refl; added = ([], sym (append-nil _)) }

pub loop-code-preserved : goal.loop-code-preserved
loop-code-preserved c = record {
  all = left-next _ _ _ _ _ _ _ c.loop-code.invariant.all c.in-Some.ensures c.in_ok-add_line.ensures.ok;
  added = added-next _ _ _ _ c.loop-code.invariant.added c.in_ok-add_line.ensures.ok;
}

pub returns-clause-ok : goal.returns-clause-ok
returns-clause-ok c = left-none _ _ _ c.in_default.ensures c.loop-code.invariant.all
