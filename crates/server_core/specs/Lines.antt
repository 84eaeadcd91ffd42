-- What a line of the script says to the machine.
use Rattle.machine.specs.Scripts.{Line}
use Rattle.machine.specs.Scripts as line
use Rattle.script_screen.specs.declared.script.ScriptLine.{ScriptLine}
use Rattle.script_screen.specs.declared.script.ScriptLine.TheVariants as text

abbrev pub line_of : ScriptLine → Line
line_of (text.Sleep ms) = line.Sleep ms
line_of (text.Await screen) = line.Await screen.0
line_of (text.KeyDown id button) = line.KeyDown id.0 button.0
line_of (text.KeyRepeat count button) = line.KeyRepeat count button.0
line_of (text.KeyUp button) = line.KeyUp button.0
line_of (text.ButtonDown b) = line.ButtonDown b.0
line_of (text.ButtonUp b) = line.ButtonUp b.0
line_of (text.Motion dx dy) = line.Motion dx dy
line_of (text.Wheel x y) = line.Wheel x y
line_of (text.Saver on) = line.Saver on
line_of (text.Copy clip bytes) = line.Copy clip bytes
line_of text.Quit = line.Quit
