use Rattle.std.proofs.Common.{◌≡◌, ◌++◌, drop}
use Rattle.std.specs.List.{flat_map}
use Rattle.config_text.specs.Normal.{side_links}
use Rattle.share_base.specs.Sides.{sides}
use Rattle.config_text.proofs.printing.put_sides.Given as goal

abbrev pub invariant-loop-side : goal.invariant-loop-side
invariant-loop-side l =
    l.out ++ flat_map (side_links l.config l.from) (drop l.side-index sides)
    ≡ l.fn.out ++ flat_map (side_links l.config l.from) sides
