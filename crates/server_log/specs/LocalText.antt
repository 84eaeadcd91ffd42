-- Lines of bytes, each after a word.
use Rattle.std.specs.Prelude.{ℕ, List, [], ◌∷◌, ◌++◌, Bool, true, false, codes, ◌==◌, cond}

-- what stands before each line
abbrev pub local : List ℕ
local = codes "local "

-- bytes that begin a line or not; a line ends with its newline
abbrev pub with_local : Bool → List ℕ → List ℕ
with_local begins [] = []
with_local begins (b ∷ bs) = cond begins local [] ++ b ∷ with_local (b == 10) bs

-- whole lines, and those after the rest of a line
abbrev pub local_text : List ℕ → List ℕ
local_text bytes = with_local true bytes

abbrev pub local_rest : List ℕ → List ℕ
local_rest bytes = with_local false bytes
