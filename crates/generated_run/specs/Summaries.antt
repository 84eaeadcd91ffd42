-- The text of a summary.
use Rattle.std.specs.Prelude.{ℕ, List, [], ◌∷◌, ◌++◌, codes}
use Rattle.std.specs.Fmt.{decimal}
use Rattle.generated_run.specs.declared.summary.Summary.{Summary}

abbrev pub line : List ℕ → ℕ → List ℕ
line word number = word ++ 32 ∷ decimal number ++ 10 ∷ []

abbrev pub summary_text : Summary → List ℕ
summary_text s = line (codes "events") 2000 ++ line (codes "switches") s.switches
    ++ line (codes "frames") s.frames ++ line (codes "queued") s.queued
    ++ line (codes "taken") s.taken
