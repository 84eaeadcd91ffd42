-- A line is refused for the first of all its faults.
use Rattle.std.proofs.Common.{◌≡◌, ℕ, Bool, true, false, List, ◌++◌, length, Result, Ok, Option}
use Rattle.std.proofs.Common.{Some, None, refl}
use Rattle.std.specs.Prelude.{is_some, is_none, nat_lt, nat_le, ◌&&◌}
use Rattle.share_base.specs.Names.{is_name}
use Rattle.text_lines.specs.Reading.{◌>>=◌, Text}
use Rattle.screen_links.specs.declared.range.Range.{Range}
use Rattle.option_table.specs.declared.rows.OptionName.{OptionName}
use Rattle.option_table.specs.declared.rows.Scope.{Scope}
use Rattle.option_table.specs.Table.{option_named, row_of}
use Rattle.option_table.specs.Values.{value_of}
use Rattle.config_text.specs.declared.faults.ConfigKind.{ConfigKind}
use Rattle.config_text.specs.declared.faults.ConfigKind.TheVariants as kind
use Rattle.config_text.specs.declared.faults.Fault.{Fault}
use Rattle.config_text.specs.declared.words.Setting.{Setting}
use Rattle.screen_config.specs.Configurations.{Configuration, screen_of}
use Rattle.config_text.specs.Shapes.{RangeText, LinkText, SettingText}
use Rattle.config_text.specs.Judging.{unless, or_fault, range_of, overlaps, known_screen}
use Rattle.config_text.specs.Judging.{new_screen, new_alias, good_range, new_link, one_link_more}
use Rattle.config_text.specs.Judging.{new_setting}
use Rattle.share_base.specs.declared.screen_set.TheConstants.{MOST_SCREENS}
use Rattle.screen_config.specs.declared.config.TheConstants.{MOST_ALIASES}
use Rattle.config_text.specs.FaultLists.{fault_unless, range_given, range_faults, known_faults}
use Rattle.config_text.specs.FaultLists.{screen_faults, alias_faults, link_faults, option_faults}
use Rattle.config_text.specs.FaultLists.{setting_faults, first, refusal_of}

step : {A : Type 0} (b : Bool) (k : ConfigKind) (left : ℕ) (f : Unit {0} → Result A Fault)
    (fs : List Fault)
    → refusal_of (f tt) ≡ first fs
    → refusal_of (unless b k left >>= f) ≡ first (fault_unless b k left ++ fs)
step true k left f fs h = h
step false k left f fs h = refl

last : {A : Type 0} (b : Bool) (k : ConfigKind) (left : ℕ) (x : A)
    → refusal_of (unless b k left >>= λ _. Ok x) ≡ first (fault_unless b k left)
last true k left x = refl
last false k left x = refl

last_found : {A : Type 0} (o : Option A) (k : ConfigKind) (left : ℕ)
    → refusal_of (or_fault o k left) ≡ first (fault_unless (is_some o) k left)
last_found None k left = refl
last_found (Some x) k left = refl

pub first_of_known : (c : Configuration) (name : Text)
    → refusal_of (known_screen c name) ≡ first (known_faults c name)
unfolding known_screen known_faults
first_of_known c name =
    step (is_name name.text) kind.BadName name.left _ _
    (last_found (screen_of c name.text) kind.UnknownScreen name.left)

pub first_of_screen : (whole : ℕ) (c : Configuration) (name : Text)
    → refusal_of (new_screen whole c name) ≡ first (screen_faults whole c name)
unfolding new_screen screen_faults
first_of_screen whole c name =
    step (is_name name.text) kind.BadName name.left _ _
    (step (is_none (screen_of c name.text)) kind.DuplicateScreen name.left _ _
    (last (nat_lt (length c.screens) MOST_SCREENS) kind.TooMany whole _))

pub first_of_alias : (whole : ℕ) (c : Configuration) (screen : ℕ) (name : Text)
    → refusal_of (new_alias whole c screen name) ≡ first (alias_faults whole c name)
unfolding new_alias alias_faults
first_of_alias whole c screen name =
    step (is_name name.text) kind.BadName name.left _ _
    (step (is_none (screen_of c name.text)) kind.DuplicateAlias name.left _ _
    (last (nat_lt (length c.aliases) MOST_ALIASES) kind.TooMany whole _))

-- ---- links

known_then : {A : Type 0} (b : Bool) (o : Option ℕ) (left : ℕ) (f : ℕ → Result A Fault)
    (fs : List Fault)
    → ((to : ℕ) → refusal_of (f to) ≡ first fs)
    → refusal_of ((unless b kind.BadName left >>= λ _. or_fault o kind.UnknownScreen left) >>= f)
    ≡ first
    ((fault_unless b kind.BadName left ++ fault_unless (is_some o) kind.UnknownScreen left)
    ++ fs)
known_then false o left f fs h = refl
known_then true None left f fs h = refl
known_then true (Some to) left f fs h = h to

range_then : {A : Type 0} (b : Bool) (r : RangeText) (f : Range → Result A Fault) (fs : List Fault)
    → refusal_of (f (range_of r.a r.b)) ≡ first fs
    → refusal_of ((unless b kind.BadRange r.left >>= λ _. Ok (range_of r.a r.b)) >>= f)
    ≡ first (fault_unless b kind.BadRange r.left ++ fs)
range_then true r f fs h = h
range_then false r f fs h = refl

range_step : {A : Type 0} (r : Option RangeText) (f : Range → Result A Fault) (fs : List Fault)
    → refusal_of (f (range_given r)) ≡ first fs
    → refusal_of (good_range r >>= f) ≡ first (range_faults r ++ fs)
unfolding good_range
range_step None f fs h = h
range_step (Some r) f fs h = range_then (nat_lt r.a r.b && nat_le r.b 100) r f fs h

pub first_of_link : (whole : ℕ) (c : Configuration) (from : ℕ) (l : LinkText)
    → refusal_of (new_link whole c from l) ≡ first (link_faults whole c from l)
unfolding new_link one_link_more known_screen known_faults link_faults overlaps
first_of_link whole c from l =
    known_then (is_name l.name.text) (screen_of c l.name.text) l.name.left _ _ (λ to.
    range_step l.source _ _
    (range_step l.target _ _
    (step _ kind.Overlap l.left _ _
    (last (nat_lt (length c.links) 1024) kind.TooMany whole _))))

-- ---- options

value_last : (o : OptionName) (v : Option ℕ) (left : ℕ)
    → refusal_of
    (or_fault v kind.BadValue left
    >>= λ n. let s : Result Setting Fault = Ok (record { option = o; value = n }) in
    s)
    ≡ first (fault_unless (is_some v) kind.BadValue left)
value_last o None left = refl
value_last o (Some n) left = refl

option_then : (o : Option OptionName) (stands : Scope → Bool) (s : SettingText)
    → refusal_of
    (or_fault o kind.UnknownOption s.key.left
    >>= λ option. unless (stands (row_of option).scope) kind.UnknownOption s.key.left
    >>= λ _. or_fault (value_of (row_of option).form s.value.text) kind.BadValue s.value.left
    >>= λ value. let a : Result Setting Fault =
    Ok (record { option = option; value = value }) in
    a)
    ≡ first (option_faults o stands s)
option_then None stands s = refl
option_then (Some o) stands s =
    step (stands (row_of o).scope) kind.UnknownOption s.key.left _ _
    (value_last o (value_of (row_of o).form s.value.text) s.value.left)

pub first_of_setting : (stands : Scope → Bool) (s : SettingText)
    → refusal_of (new_setting stands s) ≡ first (setting_faults stands s)
unfolding new_setting setting_faults
first_of_setting stands s = option_then (option_named s.key.text) stands s
