use Rattle.std.proofs.Common.{◌≡◌, ◌++◌, take}
use Rattle.log_tally.proofs.tally.TallySink.write.Given as goal

-- so much was taken
abbrev pub invariant-loop-byte : goal.invariant-loop-byte
invariant-loop-byte l = l.self ≡ l.fn.self ++ take l.byte-index l.bytes
