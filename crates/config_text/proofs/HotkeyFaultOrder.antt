-- The faults of a hotkey's line stand from the left, and a limit's behind them.
use Rattle.std.proofs.Common.{◌≡◌, ℕ, Bool, true, false, List, [], ◌∷◌, ◌++◌, map, Result, Ok, Err}
use Rattle.std.proofs.Common.{refl, inl, inr, arith}
use Rattle.std.specs.Prelude.{is_some}
use Rattle.hotkey_rules.specs.declared.action.Action.{Action}
use Rattle.hotkey_text.specs.declared.faults.HotkeyFault.{HotkeyFault}
use Rattle.hotkey_text.specs.declared.faults.HotkeyKind.{HotkeyKind}
use Rattle.hotkey_text.specs.declared.faults.HotkeyKind.TheVariants as word_kind
use Rattle.hotkey_text.specs.Shapes.{HotkeyForm}
use Rattle.hotkey_text.specs.Spelling.{SpellsHotkey}
use Rattle.hotkey_text.specs.FaultLists.{line_faults, StandBehind, StandFromTheLeft}
use Rattle.hotkey_text.proofs.FaultsFromTheLeft.{line_from_left}
use Rattle.config_text.specs.declared.faults.ConfigKind.TheVariants as kind
use Rattle.config_text.specs.declared.faults.Fault.{Fault}
use Rattle.screen_config.specs.Configurations.{Configuration, screen_of}
use Rattle.config_text.specs.Hotkeys.{kind_of, actions_of}
use Rattle.screen_config.specs.AddingHotkeys.{has_room}
use Rattle.config_text.specs.FaultLists.{fault_unless, class_of, ComesBeforeAll, AreInOrder}
use Rattle.config_text.specs.HotkeyFaults.{line_fault, limit_faults, hotkey_faults}

one_class : (k : HotkeyKind) → class_of (kind_of k) ≡ 2
one_class word_kind.BadValue = refl
one_class word_kind.UnknownKey = refl
one_class word_kind.UnknownScreen = refl
one_class word_kind.UnknownAction = refl

before_limit : (f : HotkeyFault) (b : Bool) (whole : ℕ)
    → ComesBeforeAll (line_fault f) (fault_unless b kind.TooMany whole)
before_limit f true whole = tt
before_limit f false whole = (inl (omega (arith, one_class f.kind)), tt)

before_all : (f : HotkeyFault) (fs : List HotkeyFault) (b : Bool) (whole : ℕ)
    → StandBehind f.left fs
    → ComesBeforeAll (line_fault f) (map line_fault fs ++ fault_unless b kind.TooMany whole)
before_all f [] b whole h = before_limit f b whole
before_all f (g ∷ fs) b whole h =
    (inr (omega (arith, one_class f.kind, one_class g.kind), h.0), before_all f fs b whole h.1)

limit_alone : (b : Bool) (whole : ℕ) → AreInOrder (fault_unless b kind.TooMany whole)
limit_alone true whole = tt
limit_alone false whole = (tt, tt)

all_in_order : (fs : List HotkeyFault) (b : Bool) (whole : ℕ) → StandFromTheLeft fs
    → AreInOrder (map line_fault fs ++ fault_unless b kind.TooMany whole)
all_in_order [] b whole h = limit_alone b whole
all_in_order (f ∷ fs) b whole h = (before_all f fs b whole h.0, all_in_order fs b whole h.1)

-- actions that have no meaning are counted for no limit
limit_in_order : (fs : List HotkeyFault) (whole : ℕ) (c : Configuration)
    (press release : Result (List Action) Fault)
    → StandFromTheLeft fs → AreInOrder (map line_fault fs ++ limit_faults whole c press release)
limit_in_order fs whole c (Ok press) (Ok release) h =
    all_in_order fs (has_room c.hotkeys (press ++ release)) whole h
limit_in_order fs whole c (Ok press) (Err f) h = all_in_order fs true whole h
limit_in_order fs whole c (Err f) (Ok release) h = all_in_order fs true whole h
limit_in_order fs whole c (Err f) (Err g) h = all_in_order fs true whole h

pub hotkey_in_order : (xs : List ℕ) (whole : ℕ) (c : Configuration) (line : HotkeyForm)
    → SpellsHotkey xs line → AreInOrder (hotkey_faults whole c line)
unfolding hotkey_faults
hotkey_in_order xs whole c line h =
    let known = λ (word : List ℕ). is_some (screen_of c word) in
    limit_in_order (line_faults known line) whole c (actions_of c line.press)
    (actions_of c line.release) (line_from_left known xs line h)
