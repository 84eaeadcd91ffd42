-- Where an option may stand, and options that are set where they may.
use Rattle.std.specs.Prelude.{ℕ, Bool, true, false, ◌==◌, ◌&&◌, length, Option, Some, None}
use Rattle.std.specs.List.{list_all}
use Rattle.option_table.specs.declared.rows.OptionName.{OptionName}
use Rattle.option_table.specs.declared.rows.Scope.{Scope}
use Rattle.option_table.specs.declared.rows.Scope.TheVariants as scope
use Rattle.option_table.specs.Table.{row_of, options}
use Rattle.option_table.specs.Values.{suits}
use Rattle.option_table.specs.Settings.{Values, setting}

-- whether an option of that scope may stand below a screen's header, or among those for all
abbrev pub stands_below_screen : Scope → Bool
stands_below_screen scope.Screen = true
stands_below_screen scope.Global = false
stands_below_screen scope.Both = true

abbrev pub stands_for_all : Scope → Bool
stands_for_all scope.Screen = false
stands_for_all scope.Global = true
stands_for_all scope.Both = true

-- the option isn't set, or it may stand there and the value suits it
abbrev pub may_be : (Scope → Bool) → OptionName → Option ℕ → Bool
may_be stands option None = true
may_be stands option (Some v) = stands (row_of option).scope && suits (row_of option).form v

-- a value for each row of the table, and each may be there
unfoldable pub are_settings : (Scope → Bool) → Values → Bool
are_settings stands values =
    (length values == 26) && list_all (λ o. may_be stands o (setting values o)) options
