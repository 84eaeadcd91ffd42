use Rattle.text_lines.specs.Words.{words_of}
use Rattle.script_screen.proofs.LongLines.{client_short}
use Rattle.script_screen.proofs.client_reading.ClientDraftDraft.take.Goals as goal

pub returns-in_default-clause-gives : goal.returns-in_default-clause-gives
returns-in_default-clause-gives c =
    client_short c.args.self.now (words_of c.args.line.now) c.in_default.ensures
