use Rattle.std.proofs.Common.{◌≡◌, ◌++◌, take, drop}
use Rattle.server_log.specs.LocalText.{local_rest}
use Rattle.server_log.proofs.local_lines.first_line_len.Given as goal

abbrev pub invariant-loop-i : goal.invariant-loop-i
invariant-loop-i l = local_rest l.bytes ≡ take l.i l.bytes ++ local_rest (drop l.i l.bytes)
