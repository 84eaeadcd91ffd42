use Rattle.std.proofs.Common.{◌≡◌, ◌+◌, length, take}
use Rattle.message_codec.specs.Fields.{spelled_all}
use Rattle.message_codec.specs.Table.{text, code_of, fields}
use Rattle.message_codec.proofs.encoder.body_len.Given as goal

abbrev pub invariant-loop-i : goal.invariant-loop-i
invariant-loop-i l =
    l.len ≡ length (text (code_of l.msg)) + length (spelled_all (take l.i (fields l.msg)))
