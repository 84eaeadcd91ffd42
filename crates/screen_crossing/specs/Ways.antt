-- Ways out of a screen, as the machine's definitions have them.
use Rattle.std.specs.Prelude.{Option}
use Rattle.std.specs.Option.{option_map}
use Rattle.machine.specs.Edges as machine
use Rattle.screen_crossing.specs.declared.way.Way.{Way}

abbrev pub way_of : Way → machine.Way
way_of w = record { side = w.side; landing = w.landing }

abbrev pub ways_of : Option Way → Option machine.Way
ways_of answer = option_map way_of answer
