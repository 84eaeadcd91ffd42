use Rattle.std.proofs.Common.{◌≡◌, ℕ, false, List, Result, Ok, Err, ap, ◌∙◌}
use Rattle.text_lines.specs.declared.bytes.WordKind.TheVariants as kind
use Rattle.text_lines.specs.declared.word_reading.Word.{Word}
use Rattle.text_lines.specs.Bytes.{takes}
use Rattle.text_lines.specs.Reading.{Gives}
use Rattle.text_lines.specs.Views.{word_text}
use Rattle.text_lines.specs.Lines.{trimmed}
use Rattle.text_lines.proofs.WholeLines.{word_is_whole}
use Rattle.config_text.specs.Judging.{formed}
use Rattle.config_text.specs.Shapes.{alias_at}
use Rattle.screen_config.specs.Sound.{is_end}
use Rattle.config_text.proofs.drafts.Draft.alias_line.Goals as goal

read_so : (r : Result Word ℕ) (bytes : List ℕ) (name : Word) → formed r ≡ Ok name
    → Gives word_text r (alias_at bytes) → alias_at bytes ≡ Ok (word_text name)
read_so (Ok w) bytes name f g =
    let same : w ≡ name = cc in g ∙ ap (λ (x : Word). Ok (word_text x)) same
read_so (Err left) bytes name f g = absurd cc

no_end_of : (bytes : List ℕ) (name : Word) → alias_at bytes ≡ Ok (word_text name)
    → trimmed bytes ≡ bytes → is_end bytes ≡ false → is_end name.text.now ≡ false
unfolding alias_at
no_end_of bytes name e whole h =
    ap is_end (word_is_whole (takes kind.Name) bytes (word_text name) whole e) ∙ h

pub new_alias-requires-clause-no_end : goal.new_alias-requires-clause-no_end
new_alias-requires-clause-no_end c =
    no_end_of c.args.bytes.now c.in_ok-name.name
    (read_so c.alias.result c.args.bytes.now c.in_ok-name.name c.in_ok-name.ensures
    c.alias.ensures)
    c.requires.whole c.requires.no_end
