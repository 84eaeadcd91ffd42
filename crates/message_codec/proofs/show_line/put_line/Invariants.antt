use Rattle.std.proofs.Common.{◌≡◌, ◌++◌, take}
use Rattle.std.specs.List.{flat_map}
use Rattle.message_codec.specs.Showing.{after_blank, shown}
use Rattle.message_codec.specs.Table.{text, code_of, fields}
use Rattle.message_codec.proofs.show_line.put_line.Given as goal

abbrev pub invariant-loop-i : goal.invariant-loop-i
invariant-loop-i l =
    l.out
    ≡ (l.fn.out ++ text (code_of l.msg))
    ++ flat_map (λ f. after_blank (shown f)) (take l.i (fields l.msg))
