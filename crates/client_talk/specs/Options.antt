-- Options as a message has them: numbers two by two.
use Rattle.std.specs.Prelude.{ℕ, List, [], ◌∷◌, fold, ◌==◌, if◌then◌else◌}
use Rattle.client_talk.specs.declared.options.TheConstants.{HEARTBEAT}

-- a code and its value; an odd last number is left out
abbrev pub pairs : List ℕ → List (ℕ × ℕ)
pairs (code ∷ value ∷ words) = (code, value) ∷ pairs words
pairs words = []

-- the rate of the server's beats after one more option
abbrev pub set_rate : ℕ → ℕ × ℕ → ℕ
set_rate rate option = if option.0 == HEARTBEAT then option.1 else rate

-- the last heartbeat counts; without one the rate stays
abbrev pub rate_after : ℕ → List ℕ → ℕ
rate_after rate words = fold set_rate rate (pairs words)
