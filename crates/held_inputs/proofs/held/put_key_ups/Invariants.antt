use Rattle.std.proofs.Common.{◌≡◌, ◌+◌, ◌*◌, ◌≤◌, ◌++◌, length, map, take}
use Rattle.std.specs.List.{flat_map, AllByRecursion}
use Rattle.held_inputs.specs.Line.{line_of}
use Rattle.held_inputs.specs.Ranges.{Fits}
use Rattle.held_inputs.specs.Down.{up_of}
use Rattle.held_inputs.proofs.held.put_key_ups.Given as goal

abbrev pub invariant-loop-key : goal.invariant-loop-key
invariant-loop-key g l = record {
  printed : g.B.Buffer.content l.lines
      ≡ g.B.Buffer.content l.fn.lines ++ flat_map line_of (map up_of (take l.key-index l.keys));
  fits : AllByRecursion Fits (map up_of (take l.key-index l.keys));
  bound : length (g.B.Buffer.content l.lines)
      ≤ length (g.B.Buffer.content l.fn.lines) + 19 * l.key-index;
  capacity : g.B.Buffer.capacity l.fn.lines ≤ g.B.Buffer.capacity l.lines;
}
