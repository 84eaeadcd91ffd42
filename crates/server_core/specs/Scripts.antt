-- What a script says to the machine.
use Rattle.std.specs.Prelude.{map}
use Rattle.machine.specs.Scripts as machine
use Rattle.script_screen.specs.Scripts.{ScriptText}
use Rattle.server_core.specs.Lines.{line_of}

abbrev pub script_of : ScriptText → machine.Script
script_of text = record {
  primary = text.primary.screen.0;
  width = text.primary.w;
  height = text.primary.h;
  lines = map line_of text.lines;
}
