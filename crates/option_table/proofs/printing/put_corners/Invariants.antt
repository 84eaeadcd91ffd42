use Rattle.std.proofs.Common.{◌≡◌, ◌++◌, drop}
use Rattle.std.specs.List.{flat_map}
use Rattle.option_table.specs.Printed.{corner_text, corners_text, single_corners}
use Rattle.option_table.proofs.printing.put_corners.Given as goal

abbrev pub invariant-loop-corner : goal.invariant-loop-corner
invariant-loop-corner l =
    l.out ++ flat_map (corner_text l.set) (drop l.corner-index single_corners)
    ≡ l.fn.out ++ corners_text l.set
