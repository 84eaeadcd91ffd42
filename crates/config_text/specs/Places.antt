-- Which options a line may set where it stands.
use Rattle.std.specs.Prelude.{Bool}
use Rattle.option_table.specs.declared.rows.Scope.{Scope}
use Rattle.option_table.specs.Scopes.{stands_below_screen, stands_for_all}
use Rattle.config_text.specs.declared.words.Place.{Place}
use Rattle.config_text.specs.declared.words.Place.TheVariants.{BelowScreen, ForAll}

abbrev pub stands_at : Place → Scope → Bool
stands_at BelowScreen = stands_below_screen
stands_at ForAll = stands_for_all
