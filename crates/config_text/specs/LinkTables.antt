-- Where links begin: a cell for each hundredth of each side of each screen.
use Rattle.std.specs.Prelude.{◌≡◌, ℕ, ◌+◌, ◌*◌, ◌<◌, List, length, Option, None, slice_index_or}
use Rattle.std.specs.List.{find}
use Rattle.share_base.specs.declared.shape.Side.{Side}
use Rattle.share_base.specs.declared.shape.Side.TheVariants as side
use Rattle.screen_links.specs.declared.link.Link.{Link}
use Rattle.screen_config.specs.Configurations.{Configuration}
use Rattle.screen_config.specs.Values.{begins_at}

abbrev pub side_index : Side → ℕ
side_index side.Left = 0
side_index side.Right = 1
side_index side.Up = 2
side_index side.Down = 3

-- the index of the cell of that hundredth of that side of that screen
abbrev pub cell_of : ℕ → Side → ℕ → ℕ
cell_of n s a = (n * 4 + side_index s) * 100 + a

-- each cell of so many screens has the first of the links that begins there
abbrev pub IsTableOf : List Link → ℕ → List (Option Link) → Type 0
IsTableOf links count cells =
    (n : ℕ) (s : Side) (a : ℕ) → n < count → a < 100
    → slice_index_or cells (cell_of n s a) None ≡ find (begins_at n s a) links

-- the table of a configuration
pub record IsTableFor (c : Configuration) (cells : List (Option Link)) : Type 0 where
  pub count : length cells ≡ length c.screens * 400
  pub first : IsTableOf c.links (length c.screens) cells
