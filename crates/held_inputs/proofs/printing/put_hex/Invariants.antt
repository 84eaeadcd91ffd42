use Rattle.std.proofs.Common.{◌≡◌, ◌≤◌, ◌+◌, ◌*◌, ◌++◌, length, take}
use Rattle.std.specs.List.{flat_map}
use Rattle.share_base.specs.Hex.{hex_pair}
use Rattle.held_inputs.proofs.printing.put_hex.Given as goal

abbrev pub invariant-loop-byte : goal.invariant-loop-byte
invariant-loop-byte g l = record {
  printed : g.B.Buffer.content l.lines
      ≡ g.B.Buffer.content l.fn.lines ++ flat_map hex_pair (take l.byte-index l.bytes);
  bound : length (g.B.Buffer.content l.lines)
      ≤ length (g.B.Buffer.content l.fn.lines) + 2 * l.byte-index;
  capacity : g.B.Buffer.capacity l.fn.lines ≤ g.B.Buffer.capacity l.lines;
}
