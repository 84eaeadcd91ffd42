-- The words of the sides.
use Rattle.std.specs.Prelude.{ℕ, List, [], ◌∷◌, Option, codes}
use Rattle.std.specs.List.{find}
use Rattle.std.specs.Str.{bytes_eq}
use Rattle.share_base.specs.declared.shape.Side.{Side}
use Rattle.share_base.specs.declared.shape.Side.TheVariants.{Left, Right, Up, Down}

abbrev pub side_text : Side → List ℕ
side_text Left = codes "left"
side_text Right = codes "right"
side_text Up = codes "up"
side_text Down = codes "down"

abbrev pub sides : List Side
sides = Left ∷ Right ∷ Up ∷ Down ∷ []

abbrev pub side_named : List ℕ → Option Side
side_named word = find (λ s. bytes_eq (side_text s) word) sides
