-- The words for what can be wrong with a line.
use Rattle.std.specs.Prelude.{ℕ, List, codes}
use Rattle.config_text.specs.declared.faults.ConfigKind.{ConfigKind}
use Rattle.config_text.specs.declared.faults.ConfigKind.TheVariants as kind

abbrev pub kind_text : ConfigKind → List ℕ
kind_text kind.BadLine = codes "BadLine"
kind_text kind.UnknownSection = codes "UnknownSection"
kind_text kind.UnclosedSection = codes "UnclosedSection"
kind_text kind.BadName = codes "BadName"
kind_text kind.DuplicateScreen = codes "DuplicateScreen"
kind_text kind.DuplicateAlias = codes "DuplicateAlias"
kind_text kind.UnknownScreen = codes "UnknownScreen"
kind_text kind.BadRange = codes "BadRange"
kind_text kind.Overlap = codes "Overlap"
kind_text kind.UnknownOption = codes "UnknownOption"
kind_text kind.BadValue = codes "BadValue"
kind_text kind.UnknownKey = codes "UnknownKey"
kind_text kind.UnknownAction = codes "UnknownAction"
kind_text kind.TooMany = codes "TooMany"
