-- Where an option stands in the table.
use Rattle.std.specs.Prelude.{ℕ}
use Rattle.option_table.specs.declared.rows.OptionName.{OptionName}
use Rattle.option_table.specs.declared.rows.OptionName.TheVariants as option

-- its place in the table, from 0
abbrev pub place_of : OptionName → ℕ
place_of option.HalfDuplexCapsLock = 0
place_of option.HalfDuplexNumLock = 1
place_of option.HalfDuplexScrollLock = 2
place_of option.Shift = 3
place_of option.Ctrl = 4
place_of option.Alt = 5
place_of option.Meta = 6
place_of option.SuperKey = 7
place_of option.XtestIsXineramaUnaware = 8
place_of option.PreserveFocus = 9
place_of option.Heartbeat = 10
place_of option.SwitchDelay = 11
place_of option.SwitchDoubleTap = 12
place_of option.SwitchCorners = 13
place_of option.SwitchCornerSize = 14
place_of option.RelativeMouseMoves = 15
place_of option.ClipboardSharing = 16
place_of option.ClipboardSharingSize = 17
place_of option.ScreenSaverSync = 18
place_of option.SwitchNeedsShift = 19
place_of option.SwitchNeedsControl = 20
place_of option.SwitchNeedsAlt = 21
place_of option.Win32KeepForeground = 22
place_of option.DisableLockToScreen = 23
place_of option.DefaultLockToScreenState = 24
place_of option.Protocol = 25
