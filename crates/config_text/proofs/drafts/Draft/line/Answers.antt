use Rattle.text_lines.proofs.WholeLines.{words_are_trimmed}
use Rattle.config_text.proofs.drafts.Draft.line.Goals as goal

pub words-requires : goal.words-requires
words-requires c =
    words_are_trimmed c.args.raw.now c.in-Words.words.now c.in-Words.end c.in-Words.ensures.gives
