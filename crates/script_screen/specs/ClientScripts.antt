-- Client scripts.
use Rattle.std.specs.Prelude.{◌≤◌, length}
use Rattle.script_screen.specs.declared.client_script.ClientLine.{ClientLine}
use Rattle.script_screen.specs.declared.client_script.ClientLine.TheVariants as line

-- the numbers of a line are in their ranges
abbrev pub IsClientLine : ClientLine → Type 0
IsClientLine (line.Sleep ms) = ms ≤ 86400000
IsClientLine (line.Copy clip bytes) = length bytes ≤ 4194304
IsClientLine (line.Resize w h) = (1 ≤ w) × (w ≤ 32767) × (1 ≤ h) × (h ≤ 32767)
