-- A row of the code's table of words for corners, without where its word lies in memory.
use Rattle.option_table.specs.declared.corners.CornerRow.{CornerRow}
use Rattle.option_table.specs.Corners.{CornerText}

abbrev pub corner_text : CornerRow → CornerText
corner_text r = record { word = r.word.now; corners = r.corners }
