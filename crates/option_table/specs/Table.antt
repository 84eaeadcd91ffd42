-- The table of options: one line a row. Reading, printing, defaults and the wire follow it.
use Rattle.std.specs.Prelude.{ℕ, List, [], ◌∷◌, Option, Some, None, codes}
use Rattle.std.specs.List.{find}
use Rattle.std.specs.Str.{bytes_eq}
use Rattle.std.specs.Int.{from_be_bytes, w32}
use Rattle.option_table.specs.declared.rows.OptionName.{OptionName}
use Rattle.option_table.specs.declared.rows.OptionName.TheVariants as option
use Rattle.option_table.specs.declared.rows.Scope.{Scope}
use Rattle.option_table.specs.declared.rows.Scope.TheVariants as scope
use Rattle.option_table.specs.declared.rows.ValueForm.{ValueForm}
use Rattle.option_table.specs.declared.rows.ValueForm.TheVariants as form

-- the key as the text has it, where the option may stand, the form of its value, the value where
-- none is set, and the four letters of its code on the wire, where it is sent
pub record RowText : Type 0 where
  pub key : List ℕ
  pub scope : Scope
  pub form : ValueForm
  pub default : ℕ
  pub code : Option ℕ

abbrev pub row : List ℕ → Scope → ValueForm → ℕ → Option ℕ → RowText
row key s f default code = record { key = key; scope = s; form = f; default = default; code = code }

-- four letters as a number, big-endian
abbrev pub sent : List ℕ → Option ℕ
sent letters = Some (from_be_bytes w32 letters)

unfoldable pub row_of : OptionName → RowText
row_of option.HalfDuplexCapsLock =
    row (codes "halfDuplexCapsLock") scope.Screen form.Flag 0 (sent (codes "HDCS"))
row_of option.HalfDuplexNumLock =
    row (codes "halfDuplexNumLock") scope.Screen form.Flag 0 (sent (codes "HDNL"))
row_of option.HalfDuplexScrollLock =
    row (codes "halfDuplexScrollLock") scope.Screen form.Flag 0 (sent (codes "HDSL"))
row_of option.Shift = row (codes "shift") scope.Screen form.Modifier 1 (sent (codes "MMFS"))
row_of option.Ctrl = row (codes "ctrl") scope.Screen form.Modifier 2 (sent (codes "MMFC"))
row_of option.Alt = row (codes "alt") scope.Screen form.Modifier 3 (sent (codes "MMFA"))
row_of option.Meta = row (codes "meta") scope.Screen form.Modifier 4 (sent (codes "MMFM"))
row_of option.SuperKey = row (codes "super") scope.Screen form.Modifier 5 (sent (codes "MMFR"))
row_of option.XtestIsXineramaUnaware =
    row (codes "xtestIsXineramaUnaware") scope.Screen form.Flag 1 None
row_of option.PreserveFocus = row (codes "preserveFocus") scope.Screen form.Flag 0 None
row_of option.Heartbeat =
    row (codes "heartbeat") scope.Global (form.UpTo 3600000) 3000 (sent (codes "HART"))
row_of option.SwitchDelay =
    row (codes "switchDelay") scope.Global (form.UpTo 60000) 0 (sent (codes "SSWT"))
row_of option.SwitchDoubleTap =
    row (codes "switchDoubleTap") scope.Global (form.UpTo 60000) 0 (sent (codes "SSTT"))
row_of option.SwitchCorners =
    row (codes "switchCorners") scope.Both form.Corners 0 (sent (codes "SSCC"))
row_of option.SwitchCornerSize =
    row (codes "switchCornerSize") scope.Both (form.UpTo 32767) 0 (sent (codes "SSCS"))
row_of option.RelativeMouseMoves =
    row (codes "relativeMouseMoves") scope.Global form.Flag 0 (sent (codes "MDLT"))
row_of option.ClipboardSharing =
    row (codes "clipboardSharing") scope.Global form.Flag 1 (sent (codes "CLPS"))
row_of option.ClipboardSharingSize =
    row (codes "clipboardSharingSize") scope.Global (form.UpTo 4096) 3072 None
row_of option.ScreenSaverSync = row (codes "screenSaverSync") scope.Global form.Flag 1 None
row_of option.SwitchNeedsShift = row (codes "switchNeedsShift") scope.Global form.Flag 0 None
row_of option.SwitchNeedsControl = row (codes "switchNeedsControl") scope.Global form.Flag 0 None
row_of option.SwitchNeedsAlt = row (codes "switchNeedsAlt") scope.Global form.Flag 0 None
row_of option.Win32KeepForeground = row (codes "win32KeepForeground") scope.Global form.Flag 1 None
row_of option.DisableLockToScreen = row (codes "disableLockToScreen") scope.Global form.Flag 0 None
row_of option.DefaultLockToScreenState =
    row (codes "defaultLockToScreenState") scope.Global form.Flag 0 None
row_of option.Protocol = row (codes "protocol") scope.Global form.Protocol 0 None

-- all of them, in the order in which they are printed and sent
abbrev pub options : List OptionName
options =
    option.HalfDuplexCapsLock ∷ option.HalfDuplexNumLock ∷ option.HalfDuplexScrollLock
    ∷ option.Shift ∷ option.Ctrl ∷ option.Alt ∷ option.Meta ∷ option.SuperKey
    ∷ option.XtestIsXineramaUnaware ∷
    option.PreserveFocus ∷ option.Heartbeat ∷ option.SwitchDelay ∷ option.SwitchDoubleTap
    ∷ option.SwitchCorners ∷ option.SwitchCornerSize ∷ option.RelativeMouseMoves
    ∷ option.ClipboardSharing ∷ option.ClipboardSharingSize ∷
    option.ScreenSaverSync ∷ option.SwitchNeedsShift ∷ option.SwitchNeedsControl
    ∷ option.SwitchNeedsAlt ∷ option.Win32KeepForeground ∷ option.DisableLockToScreen
    ∷ option.DefaultLockToScreenState ∷ option.Protocol ∷ []

unfoldable pub option_named : List ℕ → Option OptionName
option_named key = find (λ o. bytes_eq (row_of o).key key) options
