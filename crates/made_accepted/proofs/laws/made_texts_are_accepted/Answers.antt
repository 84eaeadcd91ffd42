use Rattle.made_accepted.specs.Spoken.{made_config, made_script, made_trace}
use Rattle.made_accepted.proofs.MadeTexts.{texts_spell, texts_fit_files}
use Rattle.made_accepted.proofs.laws.made_texts_are_accepted.Goals as goal

pub returns : goal.returns
returns c = record {
  accepted = λ n. (made_config, made_script n, made_trace, texts_spell n);
  spell = texts_spell;
  short = texts_fit_files;
}
