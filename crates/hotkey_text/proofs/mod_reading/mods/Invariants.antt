use Rattle.std.proofs.Common.{◌≡◌, length}
use Rattle.text_lines.specs.Reading.{maybe_sign_at}
use Rattle.text_lines.specs.Views.{word_text}
use Rattle.hotkey_text.specs.ChordWords.{chord_words, word_or_last}
use Rattle.hotkey_text.specs.Chords.{mods_at, with_last}
use Rattle.hotkey_text.proofs.mod_reading.mods.Given as goal

abbrev pub invariant-loop-rest : goal.invariant-loop-rest
invariant-loop-rest l =
    mods_at l.bytes
    ≡ with_last l.mods
    (word_or_last chord_words (word_text l.word, l.behind) (maybe_sign_at 43 l.behind))

abbrev pub decreases-loop-rest : goal.decreases-loop-rest
decreases-loop-rest l = length l.behind
