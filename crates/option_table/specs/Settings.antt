-- Options that are set: for each row of the table its value, where it has one.
use Rattle.std.specs.Prelude.{◌≡◌, ℕ, Bool, true, false, List, Option, Some, None, slice_get}
use Rattle.std.specs.Prelude.{slice_set, replicate, unwrap_or}
use Rattle.option_table.specs.declared.rows.OptionName.{OptionName}
use Rattle.option_table.specs.Table.{row_of, options}
use Rattle.option_table.specs.Places.{place_of}
use Rattle.option_table.specs.Values.{suits}

-- by row, in the order of the table
abbrev pub Values : Type 0
Values = List (Option ℕ)

abbrev pub none_set : Values
none_set = replicate 26 None

-- the value of an option, where it is set
abbrev pub setting : Values → OptionName → Option ℕ
setting values option = unwrap_or (slice_get values (place_of option)) None

abbrev pub with_setting : Values → OptionName → ℕ → Values
with_setting values option value = slice_set values (place_of option) (Some value)

-- it is a value of the form of that row
abbrev pub row_suits : Option OptionName → ℕ → Bool
row_suits None v = false
row_suits (Some option) v = suits (row_of option).form v

-- each value is one of its row's form
abbrev pub AreSuited : Values → Type 0
AreSuited values =
    (n v : ℕ) → slice_get values n ≡ Some (Some v) → row_suits (slice_get options n) v ≡ true

-- the value that stands: the one that is set, or the row's default
abbrev pub standing : Values → OptionName → ℕ
standing values option = unwrap_or (setting values option) (row_of option).default

-- a screen's own value stands in place of that for all
abbrev pub own_or_all : Option ℕ → Option ℕ → Option ℕ
own_or_all None all = all
own_or_all (Some own) all = Some own
