-- The open connections of the machine, and those that have flags, are the open ones of the hub.
use Rattle.std.proofs.Common.{ap, ◌∙◌}
use Rattle.hub_acts.specs.Counting.{open_with}
use Rattle.attentive_acts.specs.Telling.{state_after}
use Rattle.attentive_acts.specs.OpenTogether.{OpenTogether}
use Rattle.attentive_acts.proofs.WriteFlags.{grown-serials, flags-open}
use Rattle.attentive_acts.proofs.QuietSteps.{state-open}

pub open-together : OpenTogether
open-together those j a h = record {
  connections = state-open a j.state ∙ ap (open_with a) h.connections;
  flags = grown-serials a j.state (state_after a j.state) j.flags ∙ (flags-open a j.flags ∙ ap (open_with a) h.flags);
}
