use Rattle.std.proofs.Common.{◌≡◌, ◌++◌, drop}
use Rattle.std.specs.List.{flat_map}
use Rattle.option_table.specs.Table.{options}
use Rattle.option_table.specs.Wire.{sent_of, wire_words}
use Rattle.option_table.proofs.wire.put_wire_words.Given as goal

abbrev pub invariant-loop-option : goal.invariant-loop-option
invariant-loop-option l =
    l.out ++ flat_map (sent_of l.own l.all) (drop l.option-index options)
    ≡ l.fn.out ++ wire_words l.own l.all
