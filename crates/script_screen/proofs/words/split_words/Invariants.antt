use Rattle.std.proofs.Common.{◌≡◌, ◌≤◌, true, ◌++◌, length, map, take}
use Rattle.text_lines.specs.Bytes.{is_tight}
use Rattle.text_lines.specs.Words.{words_of}
use Rattle.script_screen.proofs.words.split_words.Given as goal

abbrev pub invariant-loop-rest : goal.invariant-loop-rest
invariant-loop-rest l = record {
  same : words_of l.bytes ≡ map (λ x. x.now) (take l.count l.words) ++ words_of l.rest;
  tight : is_tight l.rest ≡ true;
  few : l.count ≤ 4;
  size : length l.words ≡ 4;
}

abbrev pub decreases-loop-rest : goal.decreases-loop-rest
decreases-loop-rest l = length l.rest
