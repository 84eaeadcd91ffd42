-- The configuration: a row of screens, each linked to its neighbours.
use Rattle.std.specs.Prelude.{ℕ, List, [], ◌∷◌, ◌++◌, Option, Some, None, codes}
use Rattle.std.specs.List.{flat_map}

-- from left to right; the first one is the primary
abbrev pub screens : List (List ℕ)
screens = codes "desk" ∷ codes "s1" ∷ codes "s2" ∷ codes "s3" ∷ []

abbrev pub header : List ℕ → List ℕ
header name = codes "\t" ++ name ++ codes ":\n"

-- a link of a side to a neighbour, over the whole of both sides
abbrev pub link : List ℕ → Option (List ℕ) → List ℕ
link side None = []
link side (Some name) = codes "\t\t" ++ side ++ codes " = " ++ name ++ codes "\n"

abbrev pub first_of : List (List ℕ) → Option (List ℕ)
first_of [] = None
first_of (name ∷ names) = Some name

-- the links of these screens, from left to right, with a neighbour on their left
abbrev pub links : Option (List ℕ) → List (List ℕ) → List ℕ
links neighbour [] = []
links neighbour (name ∷ names) = header name ++ link (codes "left") neighbour
    ++ link (codes "right") (first_of names) ++ links (Some name) names

abbrev pub section : List ℕ → List ℕ → List ℕ
section name lines = codes "section: " ++ name ++ codes "\n" ++ lines ++ codes "end\n"

unfoldable pub config_text : List ℕ
config_text =
    section (codes "screens") (flat_map header screens) ++ section (codes "aliases") []
    ++ section (codes "links") (links None screens) ++ section (codes "options") []
