-- What the code's rows stand for.
use Rattle.std.specs.Prelude.{◌≡◌, map, length}
use Rattle.script_screen.specs.declared.rows.Row as code
use Rattle.script_screen.specs.Grammar.{Row}

-- the code's row has the words and as many arguments
pub record IsRowOf (have : code.Row) (row : Row) : Type 0 where
  pub words : map (λ w. w.now) have.words.now ≡ row.words
  pub arguments : have.arguments ≡ length row.parts
