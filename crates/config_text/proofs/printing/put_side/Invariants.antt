use Rattle.std.proofs.Common.{◌≡◌, ◌++◌, drop}
use Rattle.std.specs.List.{flat_map}
use Rattle.config_text.specs.Normal.{link_at, side_links}
use Rattle.screen_config.specs.Values.{hundredths}
use Rattle.config_text.proofs.printing.put_side.Given as goal

abbrev pub invariant-loop-a : goal.invariant-loop-a
invariant-loop-a l =
    l.out ++ flat_map (link_at l.config l.from l.side) (drop l.a hundredths)
    ≡ l.fn.out ++ side_links l.config l.from l.side
