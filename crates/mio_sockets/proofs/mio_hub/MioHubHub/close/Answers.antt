use Rattle.std.proofs.Common.{◌∙◌, refl, ap, ℕ, not, map, rules}
use Rattle.std.specs.Prelude.{◌==◌}
use Rattle.std.proofs.lemmas.Fn.{filter_same}
use Rattle.mio_sockets.specs.declared.mio_hub.Connection.{Connection}
use Rattle.mio_sockets.proofs.ClosedSerials.{map-filter}
use Rattle.mio_sockets.proofs.mio_hub.MioHubHub.close.Goals as goal

pub returns-clause-calls : goal.returns-clause-calls
returns-clause-calls g c = record {
  latest = refl;
  open_now = ap (map (λ (x : Connection). x.serial)) (filter_same _ (λ (x : Connection). not (x.serial == c.args.serial)) _ (λ x b f' k. search rules) _ _ c.retain.ensures.filtered)
      ∙ map-filter (λ (x : Connection). x.serial) (λ (s : ℕ). not (s == c.args.serial)) _;
  acts = refl;
  faults = refl;
  breaks = refl;
}
