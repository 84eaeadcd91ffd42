-- Options as they are printed.
use Rattle.std.specs.Prelude.{ℕ, ◌==◌, if◌then◌else◌, List, [], ◌∷◌, ◌++◌, Option, Some, None}
use Rattle.std.specs.Prelude.{codes, slice_get, unwrap_or, bit_and}
use Rattle.std.specs.List.{flat_map}
use Rattle.std.specs.Fmt.{decimal}
use Rattle.option_table.specs.declared.rows.OptionName.{OptionName}
use Rattle.option_table.specs.declared.rows.ValueForm.{ValueForm}
use Rattle.option_table.specs.declared.rows.ValueForm.TheVariants as form
use Rattle.option_table.specs.declared.corners.CornerWord.{CornerWord}
use Rattle.option_table.specs.declared.corners.CornerWord.TheVariants as corner
use Rattle.option_table.specs.Corners.{corner_of}
use Rattle.option_table.specs.Table.{row_of, options}
use Rattle.option_table.specs.Settings.{Values, setting}
use Rattle.option_table.specs.Values.{words_of_form}

-- the single corners, in the order of their numbers
abbrev pub single_corners : List CornerWord
single_corners = corner.TopLeft ∷ corner.TopRight ∷ corner.BottomLeft ∷ corner.BottomRight ∷ []

unfoldable pub corner_text : ℕ → CornerWord → List ℕ
corner_text set c =
    if bit_and set (corner_of c).corners == 0 then [] else codes " +" ++ (corner_of c).word

-- a set of corners: `none`, and each corner of it with a +
abbrev pub corners_text : ℕ → List ℕ
corners_text set = codes "none" ++ flat_map (corner_text set) single_corners

abbrev pub word_text : ValueForm → ℕ → List ℕ
word_text f v = unwrap_or (slice_get (words_of_form f) v) []

unfoldable pub value_text : ValueForm → ℕ → List ℕ
value_text form.Flag v = word_text form.Flag v
value_text form.Modifier v = word_text form.Modifier v
value_text form.Corners v = corners_text v
value_text (form.UpTo max) v = decimal v
value_text form.Protocol v = word_text form.Protocol v

-- KEY = VALUE
abbrev pub option_text : OptionName → ℕ → List ℕ
option_text option value =
    ((row_of option).key ++ codes " = ") ++ value_text (row_of option).form value

-- a line with these bytes in front of the option, where it is set
abbrev pub line_where_set : List ℕ → OptionName → Option ℕ → List ℕ
line_where_set tabs option None = []
line_where_set tabs option (Some value) = (tabs ++ option_text option value) ++ 10 ∷ []

unfoldable pub option_line : List ℕ → Values → OptionName → List ℕ
option_line tabs values option = line_where_set tabs option (setting values option)

-- the lines of all options that are set, in the order of the table
abbrev pub option_lines : List ℕ → Values → List ℕ
option_lines tabs values = flat_map (option_line tabs values) options
