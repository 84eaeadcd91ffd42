-- The options that stand, for all screens and for one.
use Rattle.std.specs.Prelude.{ℕ, Bool, ◌==◌, ◌≤◌, if◌then◌else◌, Option, Some, None, slice_get}
use Rattle.std.specs.Prelude.{unwrap_or}
use Rattle.option_table.specs.declared.rows.OptionName.{OptionName}
use Rattle.option_table.specs.declared.rows.OptionName.TheVariants as option
use Rattle.option_table.specs.Settings.{Values, setting, standing}
use Rattle.option_table.specs.Wire as wire
use Rattle.option_table.specs.Settings.{none_set}
use Rattle.screen_config.specs.declared.globals.Globals.{Globals}
use Rattle.share_base.specs.declared.corners.Corners.{Corners}
use Rattle.screen_config.specs.declared.globals.Protocol.{Protocol}
use Rattle.screen_config.specs.declared.globals.Protocol.TheVariants as protocol
use Rattle.screen_config.specs.declared.screens.Screen.{Screen}
use Rattle.screen_config.specs.Configurations.{Configuration}
use Rattle.std.specs.Prelude.{List}

abbrev pub flag : Values → OptionName → Bool
flag values o = standing values o == 1

abbrev pub protocol_of : ℕ → Protocol
protocol_of n = if n == 0 then protocol.Synergy else protocol.Barrier

-- the options for all screens, each with its default where none is set
abbrev pub globals_of : Values → Globals
globals_of v = record {
  heartbeat = standing v option.Heartbeat;
  switch_delay = standing v option.SwitchDelay;
  switch_double_tap = standing v option.SwitchDoubleTap;
  switch_corners = standing v option.SwitchCorners;
  switch_corner_size = standing v option.SwitchCornerSize;
  relative_mouse_moves = flag v option.RelativeMouseMoves;
  clipboard_sharing = flag v option.ClipboardSharing;
  clipboard_sharing_size = standing v option.ClipboardSharingSize;
  screen_saver_sync = flag v option.ScreenSaverSync;
  switch_needs_shift = flag v option.SwitchNeedsShift;
  switch_needs_control = flag v option.SwitchNeedsControl;
  switch_needs_alt = flag v option.SwitchNeedsAlt;
  win32_keep_foreground = flag v option.Win32KeepForeground;
  disable_lock_to_screen = flag v option.DisableLockToScreen;
  default_lock_to_screen_state = flag v option.DefaultLockToScreenState;
  protocol = protocol_of (standing v option.Protocol);
}

-- each number is one that the table allows
pub record AreInRange (g : Globals) : Type 0 where
  pub heartbeat : g.heartbeat ≤ 3600000
  pub switch_delay : g.switch_delay ≤ 60000
  pub switch_double_tap : g.switch_double_tap ≤ 60000
  pub switch_corners : g.switch_corners ≤ 15
  pub switch_corner_size : g.switch_corner_size ≤ 32767
  pub clipboard_sharing_size : g.clipboard_sharing_size ≤ 4096

-- the own options of a screen
abbrev pub own_in : Option Screen → Values
own_in None = none_set
own_in (Some s) = s.settings

abbrev pub own_of : Configuration → ℕ → Values
own_of c n = own_in (slice_get c.screens n)

-- the value that stands for a screen: its own, or that for all
abbrev pub standing_for : Configuration → ℕ → OptionName → ℕ
standing_for c n o = unwrap_or (setting (own_of c n) o) (standing c.settings o)

abbrev pub corners_of : Configuration → ℕ → Corners
corners_of c n =
    record {
      set = standing_for c n option.SwitchCorners;
      size = standing_for c n option.SwitchCornerSize;
    }

-- what a screen is sent
abbrev pub wire_options_of : Configuration → ℕ → List ℕ
wire_options_of c n = wire.wire_words (own_of c n) c.settings
