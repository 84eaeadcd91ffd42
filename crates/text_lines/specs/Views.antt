-- What the code's borrowed values stand for.
use Rattle.text_lines.specs.declared.word_reading.Word as code_word
use Rattle.text_lines.specs.declared.lines.TextLine.{TextLine}
use Rattle.text_lines.specs.declared.lines.TextLine.TheVariants as line
use Rattle.text_lines.specs.Reading.{Text}
use Rattle.text_lines.specs.Lines.{LineText, Empty, Forbidden, Words}

abbrev pub word_text : code_word.Word → Text
word_text w = record { text = w.text.now; left = w.left }

abbrev pub line_seen : TextLine → LineText
line_seen line.Empty = Empty
line_seen (line.Forbidden place) = Forbidden place
line_seen (line.Words words end) = Words words.now end
