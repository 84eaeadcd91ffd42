use Rattle.std.proofs.Common.{◌≡◌, ◌++◌, take}
use Rattle.std.specs.List.{AllByRecursion}
use Rattle.message_codec.specs.Fields.{spelled_all, Fits}
use Rattle.message_codec.specs.Table.{text, code_of, fields}
use Rattle.message_codec.proofs.encoder.put_body.Given as goal

abbrev pub invariant-loop-i : goal.invariant-loop-i
invariant-loop-i l = record {
  put : l.out ≡ (l.fn.out ++ text (code_of l.msg)) ++ spelled_all (take l.i (fields l.msg));
  fits : AllByRecursion Fits (take l.i (fields l.msg));
}
