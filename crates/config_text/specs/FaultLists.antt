-- All faults of a line's words: by class, and within a class from the left.
use Rattle.std.specs.Prelude.{◌≡◌, ℕ, ◌<◌, ◌≤◌, Bool, true, false, not, ◌&&◌, nat_lt, nat_le, List}
use Rattle.std.specs.Prelude.{[], ◌∷◌, ◌++◌, length, Result, Ok, Err, Option, Some, None, is_some}
use Rattle.std.specs.Prelude.{is_none, ◌⊎◌}
use Rattle.std.specs.List.{list_any}
use Rattle.share_base.specs.declared.shape.Side.{Side}
use Rattle.share_base.specs.Names.{is_name}
use Rattle.text_lines.specs.Reading.{Text}
use Rattle.screen_links.specs.declared.range.Range.{Range}
use Rattle.option_table.specs.declared.rows.OptionName.{OptionName}
use Rattle.option_table.specs.declared.rows.Scope.{Scope}
use Rattle.option_table.specs.Table.{option_named, row_of}
use Rattle.option_table.specs.Values.{value_of}
use Rattle.config_text.specs.declared.faults.ConfigKind.{ConfigKind}
use Rattle.config_text.specs.declared.faults.ConfigKind.TheVariants as kind
use Rattle.config_text.specs.declared.faults.Fault.{Fault}
use Rattle.screen_config.specs.Configurations.{Configuration, screen_of}
use Rattle.config_text.specs.Shapes.{RangeText, LinkText, SettingText}
use Rattle.screen_links.specs.Adding.{link_of}
use Rattle.config_text.specs.Judging.{fault_at, range_of, screen_no, overlaps}
use Rattle.share_base.specs.declared.screen_set.TheConstants.{MOST_SCREENS}
use Rattle.screen_config.specs.declared.config.TheConstants.{MOST_ALIASES}

abbrev pub fault_unless : Bool → ConfigKind → ℕ → List Fault
fault_unless true k left = []
fault_unless false k left = fault_at k left ∷ []

abbrev pub bad_name : Text → List Fault
bad_name name = fault_unless (is_name name.text) kind.BadName name.left

-- of a screen that the line speaks of
unfoldable pub known_faults : Configuration → Text → List Fault
known_faults c name =
    bad_name name ++ fault_unless (is_some (screen_of c name.text)) kind.UnknownScreen name.left

unfoldable pub screen_faults : ℕ → Configuration → Text → List Fault
screen_faults whole c name =
    bad_name name ++ (fault_unless (is_none (screen_of c name.text)) kind.DuplicateScreen name.left
    ++ fault_unless (nat_lt (length c.screens) MOST_SCREENS) kind.TooMany whole)

unfoldable pub alias_faults : ℕ → Configuration → Text → List Fault
alias_faults whole c name =
    bad_name name ++ (fault_unless (is_none (screen_of c name.text)) kind.DuplicateAlias name.left
    ++ fault_unless (nat_lt (length c.aliases) MOST_ALIASES) kind.TooMany whole)

-- ---- links

abbrev pub range_given : Option RangeText → Range
range_given None = range_of 0 100
range_given (Some r) = range_of r.a r.b

abbrev pub range_faults : Option RangeText → List Fault
range_faults None = []
range_faults (Some r) = fault_unless (nat_lt r.a r.b && nat_le r.b 100) kind.BadRange r.left

-- a link there, wherever it leads, has a hundredth in common with one that is there already
abbrev pub is_taken : Configuration → ℕ → Side → Range → Bool
is_taken c from side range =
    list_any (overlaps (link_of (screen_no from) side range (screen_no from) range)) c.links

unfoldable pub link_faults : ℕ → Configuration → ℕ → LinkText → List Fault
link_faults whole c from l =
    known_faults c l.name ++ (range_faults l.source ++ (range_faults l.target
    ++ (fault_unless (not (is_taken c from l.side (range_given l.source))) kind.Overlap l.left
    ++ fault_unless (nat_lt (length c.links) 1024) kind.TooMany whole)))

-- ---- options

-- an option that nobody knows has no form of values
abbrev pub option_faults : Option OptionName → (Scope → Bool) → SettingText → List Fault
option_faults None stands s = fault_at kind.UnknownOption s.key.left ∷ []
option_faults (Some o) stands s =
    fault_unless (stands (row_of o).scope) kind.UnknownOption s.key.left
    ++ fault_unless (is_some (value_of (row_of o).form s.value.text)) kind.BadValue s.value.left

unfoldable pub setting_faults : (Scope → Bool) → SettingText → List Fault
setting_faults stands s = option_faults (option_named s.key.text) stands s

-- ---- which comes

abbrev pub first : List Fault → Option Fault
first [] = None
first (f ∷ fs) = Some f

-- the fault for which a line is refused, if it is
abbrev pub refusal_of : {A : Type 0} → Result A Fault → Option Fault
refusal_of (Ok a) = None
refusal_of (Err f) = Some f

-- ---- their order

abbrev pub class_of : ConfigKind → ℕ
class_of kind.BadLine = 0
class_of kind.BadName = 1
class_of kind.BadRange = 3
class_of kind.Overlap = 4
class_of kind.TooMany = 5
class_of _ = 2

-- of a class before the other's, or of the same and no further to the right
abbrev pub ComesBefore : Fault → Fault → Type 0
ComesBefore a b =
    (class_of a.kind < class_of b.kind) ⊎ ((class_of a.kind ≡ class_of b.kind) × (b.left ≤ a.left))

abbrev pub ComesBeforeAll : Fault → List Fault → Type 0
ComesBeforeAll f [] = Unit {0}
ComesBeforeAll f (g ∷ gs) = ComesBefore f g × ComesBeforeAll f gs

-- each comes before all behind it
abbrev pub AreInOrder : List Fault → Type 0
AreInOrder [] = Unit {0}
AreInOrder (f ∷ fs) = ComesBeforeAll f fs × AreInOrder fs
