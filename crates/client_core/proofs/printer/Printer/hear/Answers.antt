use Rattle.std.proofs.Common.{refl}
use Rattle.client_core.proofs.Screens.{is-other, heard-applied, heard-grab}
use Rattle.client_core.proofs.printer.Printer.hear.Goals as goal

pub returns-in-ResetOptions-clause-ok : goal.returns-in-ResetOptions-clause-ok
returns-in-ResetOptions-clause-ok c = rw c.in-ResetOptions.is c.reset_options.ensures.ok

pub returns-in-Grab-clause-ok : goal.returns-in-Grab-clause-ok
returns-in-Grab-clause-ok c = heard-grab _ _ _ _ _ _ c.in-Grab.is refl refl c.add_line.ensures.ok

pub returns-in_default : goal.returns-in_default
returns-in_default c = record {
  ok = heard-applied _ _ _ _ (is-other _ c.in_default.not-ResetOptions c.in_default.not-SetOptions c.in_default.not-Grab c.in_default.not-ClipPart) c.apply.ensures.ok;
  err = c.apply.ensures.err;
}
