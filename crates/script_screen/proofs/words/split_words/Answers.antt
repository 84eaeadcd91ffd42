use Rattle.std.proofs.Common.{◌≡◌, ◌<◌, ◌++◌, length, map, take, drop, ap, sym, ◌∙◌, arith}
use Rattle.std.proofs.Common.{rules}
use Rattle.std.proofs.lemmas.List.{length-take, length-map}
use Rattle.text_lines.specs.Words.{words_of}
use Rattle.share_base.proofs.Ends.{is_nil}
use Rattle.script_screen.proofs.WordSteps.{first_words, tight_after, one_more_word, word_taken}
use Rattle.script_screen.proofs.WordSteps.{no_more_words, too_many_words, some_left}
use Rattle.script_screen.proofs.words.split_words.Goals as goal

pub loop-rest-init : goal.loop-rest-init
loop-rest-init c = record {
  same = first_words c.args.bytes.now c.unblanked-rest.result.now c.unblanked-rest.ensures.value;
  tight = tight_after c.args.bytes.now c.unblanked-rest.result.now c.unblanked-rest.ensures.value;
  few = omega arith;
  size = search rules;
}

pub returns-then-count-eq-MAX_WORDS : goal.returns-then-count-eq-MAX_WORDS
returns-then-count-eq-MAX_WORDS c =
    let some : 0 < length c.loop-rest.rest.now =
    some_left c.loop-rest.rest.now (sym c.loop-rest-test.true ∙ c.is_empty.ensures) in
    let held : length (map (λ x. x.now) (take c.loop-rest.count c.loop-rest.words)) ≡ 4 =
    omega (
      arith,
      length-map (take c.loop-rest.count c.loop-rest.words) (λ x. x.now),
      length-take c.loop-rest.count c.loop-rest.words,
    )
    in
    too_many_words _ _ c.loop-rest.rest.now 4 c.loop-rest.invariant.same held
    c.loop-rest.invariant.tight some

pub loop-rest-preserved : goal.loop-rest-preserved
loop-rest-preserved c =
    let some : 0 < length c.loop-rest.rest.now =
    some_left c.loop-rest.rest.now (sym c.loop-rest-test.true ∙ c.is_empty.ensures) in
    record {
      same =
          word_taken _ _ c.loop-rest.rest.now c.split_at.result.0.now c.split_at.result.1.now
          c.unblanked-rest-in-loop-rest.result.now c.loop-rest.invariant.same
          c.loop-rest.invariant.tight some
          (c.split_at.ensures.front ∙ ap (λ n. take n c.loop-rest.rest.now) c.word_len.ensures.len)
          (c.split_at.ensures.back ∙ ap (λ n. drop n c.loop-rest.rest.now) c.word_len.ensures.len)
          c.unblanked-rest-in-loop-rest.ensures.value
          ∙ ap (λ ws. ws ++ words_of c.unblanked-rest-in-loop-rest.result.now)
          (sym
          (one_more_word (λ x. x.now) c.loop-rest.words c.loop-rest.count
          c.split_at.result.0 (omega arith)));
      tight =
          tight_after c.split_at.result.1.now c.unblanked-rest-in-loop-rest.result.now
          c.unblanked-rest-in-loop-rest.ensures.value;
      few = omega arith;
      size = search rules;
    }

pub returns : goal.returns
returns c =
    let none = is_nil c.loop-rest.rest.now (sym c.loop-rest-test.false ∙ c.is_empty.ensures) in
    sym (c.loop-rest.invariant.same ∙ no_more_words _ c.loop-rest.rest.now none)
