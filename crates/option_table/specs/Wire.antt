-- The options that a screen is sent: of each that is set and has a code, the code and the value, in
-- the table's order.
use Rattle.std.specs.Prelude.{ℕ, List, [], ◌∷◌, Option, Some, None}
use Rattle.std.specs.List.{flat_map}
use Rattle.option_table.specs.declared.rows.OptionName.{OptionName}
use Rattle.option_table.specs.Table.{row_of, options}
use Rattle.option_table.specs.Settings.{Values, setting, own_or_all}

abbrev pub pair : Option ℕ → Option ℕ → List ℕ
pair None value = []
pair (Some code) None = []
pair (Some code) (Some value) = code ∷ value ∷ []

unfoldable pub sent_of : Values → Values → OptionName → List ℕ
sent_of own all option =
    pair (row_of option).code (own_or_all (setting own option) (setting all option))

-- the words for a screen of these options of its own, beside those for all screens
abbrev pub wire_words : Values → Values → List ℕ
wire_words own all = flat_map (sent_of own all) options
