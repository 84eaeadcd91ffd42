use Rattle.option_table.proofs.CornersByWords.{corners_some, corners_few, corner_held, corner_added}
use Rattle.option_table.proofs.laws.corners_go_by_the_last_word.Goals as goal

pub returns : goal.returns
returns c =
    record { some = corners_some; few = corners_few; held = corner_held; added = corner_added }
