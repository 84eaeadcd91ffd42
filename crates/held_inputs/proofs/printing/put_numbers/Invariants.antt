use Rattle.std.proofs.Common.{◌≡◌, ◌≤◌, ◌+◌, ◌*◌, ◌++◌, length, map, take}
use Rattle.std.specs.Fmt.{decimal}
use Rattle.std.specs.List.{flat_map}
use Rattle.message_codec.specs.Showing.{after_blank}
use Rattle.held_inputs.proofs.printing.put_numbers.Given as goal

abbrev pub invariant-loop-number : goal.invariant-loop-number
invariant-loop-number g l = record {
  printed : g.B.Buffer.content l.lines
      ≡ (g.B.Buffer.content l.fn.lines ++ l.words)
      ++ flat_map after_blank (map decimal (take l.number-index l.numbers));
  bound : length (g.B.Buffer.content l.lines)
      ≤ length (g.B.Buffer.content l.fn.lines) + length l.words + 6 * l.number-index;
  capacity : g.B.Buffer.capacity l.fn.lines ≤ g.B.Buffer.capacity l.lines;
}
