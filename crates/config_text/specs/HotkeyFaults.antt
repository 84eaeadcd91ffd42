-- All faults of a hotkey's line: of its words, from the left, and then of a limit.
use Rattle.std.specs.Prelude.{ℕ, List, [], ◌++◌, map, Result, Ok, is_some}
use Rattle.hotkey_rules.specs.declared.action.Action.{Action}
use Rattle.hotkey_text.specs.declared.faults.HotkeyFault.{HotkeyFault}
use Rattle.hotkey_text.specs.Shapes.{HotkeyForm}
use Rattle.hotkey_text.specs.FaultLists.{line_faults}
use Rattle.config_text.specs.declared.faults.ConfigKind.TheVariants as kind
use Rattle.config_text.specs.declared.faults.Fault.{Fault}
use Rattle.screen_config.specs.Configurations.{Configuration, screen_of}
use Rattle.config_text.specs.Judging.{fault_at}
use Rattle.config_text.specs.Hotkeys.{kind_of, actions_of}
use Rattle.screen_config.specs.AddingHotkeys.{has_room}
use Rattle.config_text.specs.FaultLists.{fault_unless}

abbrev pub line_fault : HotkeyFault → Fault
line_fault f = fault_at (kind_of f.kind) f.left

-- actions of which one has no meaning are counted for no limit
abbrev pub limit_faults : ℕ → Configuration → Result (List Action) Fault
    → Result (List Action) Fault → List Fault
limit_faults whole c (Ok press) (Ok release) =
    fault_unless (has_room c.hotkeys (press ++ release)) kind.TooMany whole
limit_faults whole c press release = []

unfoldable pub hotkey_faults : ℕ → Configuration → HotkeyForm → List Fault
hotkey_faults whole c line =
    map line_fault (line_faults (λ word. is_some (screen_of c word)) line)
    ++ limit_faults whole c (actions_of c line.press) (actions_of c line.release)
