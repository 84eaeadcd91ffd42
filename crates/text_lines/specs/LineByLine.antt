-- A text that is read line by line: each line is judged, with its number, in what the lines above
-- it gave.
use Rattle.std.specs.Prelude.{◌≡◌, ℕ, ◌+◌, List, [], ◌∷◌, ◌++◌, length, Result, Ok, Err}
use Rattle.text_lines.specs.Reading.{◌>>=◌}

-- what all lines give, the first of them having the number n, or the refusal of the first that
-- offends
unfoldable pub all_lines : {D E : Type 0} → (ℕ → D → List ℕ → Result D E) → ℕ → D → List (List ℕ)
    → Result D E
all_lines judge n d [] = Ok d
all_lines judge n d (l ∷ ls) = judge n d l >>= λ e. all_lines judge (n + 1) e ls

-- these lines, numbered from n on, are good and lead from one draft to the other
abbrev pub LeadsOver : {D E : Type 0} → (ℕ → D → List ℕ → Result D E) → ℕ → D → List (List ℕ) → D
    → Type 0
LeadsOver judge n from [] to = from ≡ to
LeadsOver {D = D} judge n from (l ∷ ls) to =
    (next : D) × (judge n from l ≡ Ok next) × LeadsOver judge (n + 1) next ls to

-- the lines above it are good, and it isn't; the first line has the number 1
pub record OffendsIn {D E : Type 0} (judge : ℕ → D → List ℕ → Result D E) (from : D)
    (lines : List (List ℕ)) (refusal : E) : Type 0 where
  pub above : List (List ℕ)
  pub line : List ℕ
  pub below : List (List ℕ)
  pub draft : D
  pub parts : lines ≡ above ++ line ∷ below
  pub good : LeadsOver judge 1 from above draft
  pub bad : judge (length above + 1) draft line ≡ Err refusal
