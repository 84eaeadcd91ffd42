use Rattle.std.proofs.Common.{◌≡◌, ◌≤◌, ◌+◌, ◌*◌, ◌++◌, length}
use Rattle.server_log.specs.LocalText.{local_text}
use Rattle.server_log.proofs.local_lines.put_local_lines.Given as goal

abbrev pub invariant-loop-rest : goal.invariant-loop-rest
invariant-loop-rest g l = record {
  printed : g.B.Buffer.content l.text ++ local_text l.rest ≡ g.B.Buffer.content l.fn.text ++ local_text l.fn.lines;
  room : length (g.B.Buffer.content l.text) + 7 * length l.rest ≤ g.B.Buffer.capacity l.text;
}

abbrev pub decreases-loop-rest : goal.decreases-loop-rest
decreases-loop-rest g l = length l.rest
