use Rattle.std.proofs.Common.{◌≡◌, ◌+◌, ◌*◌, ◌≤◌, ◌++◌, length, map}
use Rattle.std.specs.List.{flat_map}
use Rattle.held_inputs.specs.Line.{line_of}
use Rattle.held_inputs.specs.Table.{places}
use Rattle.held_inputs.specs.declared.line.Line.TheVariants.{ButtonUp}
use Rattle.held_inputs.proofs.held.put_button_ups.Given as goal

abbrev pub invariant-loop-b : goal.invariant-loop-b
invariant-loop-b g l = record {
  printed : g.B.Buffer.content l.lines
      ≡ g.B.Buffer.content l.fn.lines ++ flat_map line_of (map ButtonUp (places l.buttons l.b));
  bound : length (g.B.Buffer.content l.lines) ≤ length (g.B.Buffer.content l.fn.lines) + 16 * l.b;
  capacity : g.B.Buffer.capacity l.fn.lines ≤ g.B.Buffer.capacity l.lines;
}
