use Rattle.script_screen.proofs.Readings.{is_client_reading, found_of, only_of, refused_of}
use Rattle.script_screen.proofs.Readings.{refuses_of}
use Rattle.script_screen.proofs.client_reading.read_client_script.Goals as goal

pub returns : goal.returns
returns c = record {
  found = found_of (is_client_reading c.args.text.now) c.read.result c.read.ensures;
  only = only_of (is_client_reading c.args.text.now) c.read.result c.read.ensures;
  refused = refused_of (is_client_reading c.args.text.now) c.read.result c.read.ensures;
  refuses = refuses_of (is_client_reading c.args.text.now) c.read.result c.read.ensures;
}
