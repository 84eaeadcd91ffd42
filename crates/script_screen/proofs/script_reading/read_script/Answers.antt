use Rattle.script_screen.proofs.Readings.{is_script_reading, found_of, only_of, refused_of}
use Rattle.script_screen.proofs.Readings.{refuses_of}
use Rattle.script_screen.proofs.script_reading.read_script.Goals as goal

pub returns-clause-found : goal.returns-clause-found
returns-clause-found c =
    found_of (is_script_reading c.args.config.now c.args.text.now) c.read.result
    c.read.ensures.gives

pub returns-clause-only : goal.returns-clause-only
returns-clause-only c =
    only_of (is_script_reading c.args.config.now c.args.text.now) c.read.result c.read.ensures.gives

pub returns-clause-refused : goal.returns-clause-refused
returns-clause-refused c =
    refused_of (is_script_reading c.args.config.now c.args.text.now) c.read.result
    c.read.ensures.gives

pub returns-clause-refuses : goal.returns-clause-refuses
returns-clause-refuses c =
    refuses_of (is_script_reading c.args.config.now c.args.text.now) c.read.result
    c.read.ensures.gives
