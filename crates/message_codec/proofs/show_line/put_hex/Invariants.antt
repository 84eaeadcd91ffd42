use Rattle.std.proofs.Common.{◌≡◌, [], ◌∷◌, ◌++◌, take}
use Rattle.std.specs.List.{flat_map}
use Rattle.share_base.specs.Hex.{hex_pair}
use Rattle.message_codec.proofs.show_line.put_hex.Given as goal

abbrev pub invariant-loop-byte : goal.invariant-loop-byte
invariant-loop-byte l =
    l.out ≡ (l.fn.out ++ 32 ∷ []) ++ flat_map hex_pair (take l.byte-index l.bytes)
