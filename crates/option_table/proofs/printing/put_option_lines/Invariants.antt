use Rattle.std.proofs.Common.{◌≡◌, ◌++◌, drop}
use Rattle.std.specs.List.{flat_map}
use Rattle.option_table.specs.Table.{options}
use Rattle.option_table.specs.Printed.{option_line, option_lines}
use Rattle.option_table.proofs.printing.put_option_lines.Given as goal

abbrev pub invariant-loop-option : goal.invariant-loop-option
invariant-loop-option l =
    l.out ++ flat_map (option_line l.tabs l.settings) (drop l.option-index options)
    ≡ l.fn.out ++ option_lines l.tabs l.settings
