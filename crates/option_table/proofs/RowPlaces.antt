-- Rows by their places.
use Rattle.std.proofs.Common.{◌≡◌, Bool, true, Some, refl, ap, sym, ◌∙◌}
use Rattle.std.specs.Prelude.{slice_get}
use Rattle.std.specs.List.{list_all}
use Rattle.std.proofs.lemmas.Option.{same_Some}
use Rattle.share_base.proofs.ListTests.{all_at}
use Rattle.option_table.specs.declared.rows.OptionName.{OptionName}
use Rattle.option_table.specs.declared.rows.OptionName.TheVariants as option
use Rattle.option_table.specs.Table.{options, row_of}
use Rattle.option_table.specs.Values.{suits}
use Rattle.option_table.specs.Places.{place_of}

pub row_at_place : (o : OptionName) → slice_get options (place_of o) ≡ Some o
row_at_place option.HalfDuplexCapsLock = refl
row_at_place option.HalfDuplexNumLock = refl
row_at_place option.HalfDuplexScrollLock = refl
row_at_place option.Shift = refl
row_at_place option.Ctrl = refl
row_at_place option.Alt = refl
row_at_place option.Meta = refl
row_at_place option.SuperKey = refl
row_at_place option.XtestIsXineramaUnaware = refl
row_at_place option.PreserveFocus = refl
row_at_place option.Heartbeat = refl
row_at_place option.SwitchDelay = refl
row_at_place option.SwitchDoubleTap = refl
row_at_place option.SwitchCorners = refl
row_at_place option.SwitchCornerSize = refl
row_at_place option.RelativeMouseMoves = refl
row_at_place option.ClipboardSharing = refl
row_at_place option.ClipboardSharingSize = refl
row_at_place option.ScreenSaverSync = refl
row_at_place option.SwitchNeedsShift = refl
row_at_place option.SwitchNeedsControl = refl
row_at_place option.SwitchNeedsAlt = refl
row_at_place option.Win32KeepForeground = refl
row_at_place option.DisableLockToScreen = refl
row_at_place option.DefaultLockToScreenState = refl
row_at_place option.Protocol = refl

-- what every row of the table passes, each option's row passes
pub each_row : (p : OptionName → Bool) → list_all p options ≡ true → (o : OptionName) → p o ≡ true
each_row p all o = all_at p options (place_of o) o all (row_at_place o)

-- no two options stand at one place
pub one_place : (o q : OptionName) → place_of o ≡ place_of q → o ≡ q
one_place o q e = same_Some o q (sym (row_at_place o) ∙ ap (slice_get options) e ∙ row_at_place q)

pub default_suits : (o : OptionName) → suits (row_of o).form (row_of o).default ≡ true
unfolding row_of
default_suits o = each_row (λ o. suits (row_of o).form (row_of o).default) refl o
