-- The end of a reader whose bytes are known.
use Rattle.std.proofs.Common.{ℕ, List, [], Option, None, Some, sym, ◌∙◌}
use Rattle.std.specs.Io.KnownBytes.{Keeps, Consumes, IsAtEnd}

-- a read that gave nothing at the end kept what there was, which is nothing
pub reads_the_end : (old mid new : Option (List ℕ)) → Keeps old mid → Consumes mid new [] → IsAtEnd new → IsAtEnd old × Keeps old new
reads_the_end None mid new kept consumed ended = (tt, tt)
reads_the_end (Some xs) None new kept consumed ended = absurd kept
reads_the_end (Some xs) (Some ys) None kept consumed ended = absurd consumed
reads_the_end (Some xs) (Some ys) (Some zs) kept consumed ended = (sym kept ∙ consumed ∙ ended, sym consumed ∙ kept)
