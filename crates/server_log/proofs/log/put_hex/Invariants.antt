use Rattle.std.proofs.Common.{◌≡◌, ◌++◌, take}
use Rattle.std.specs.List.{flat_map}
use Rattle.share_base.specs.Hex.{hex_pair}
use Rattle.server_log.proofs.log.put_hex.Given as goal

abbrev pub invariant-loop-byte : goal.invariant-loop-byte
invariant-loop-byte l = l.line ≡ l.fn.line ++ flat_map hex_pair (take l.byte-index l.bytes)
