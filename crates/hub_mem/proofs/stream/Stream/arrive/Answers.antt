use Rattle.std.proofs.Common.{◌∙◌, ap, arith}
use Rattle.hub_mem.specs.Feeds.{Feed, with_arrived}
use Rattle.hub_mem.proofs.Arrivals.{arrives}
use Rattle.hub_mem.proofs.stream.Stream.arrive.Goals as goal

pub returns : goal.returns
returns c =
    let s = c.self.inside in
    arrives s.bytes.items s.read s.arrived c.args.count c.min.result s.has_ended s.has_failed s.room c.self.invariant.0 c.self.invariant.1 (omega (arith, c.min.ensures, c.len.ensures))
    ∙ ap (λ (f : Feed). with_arrived c.args.count f) c.self.view_is
