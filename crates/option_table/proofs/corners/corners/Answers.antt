use Rattle.std.proofs.Common.{ℕ, ◌<◌, List, length, take, drop, ap, sym, ◌∙◌, arith}
use Rattle.text_lines.specs.Words.{words_of}
use Rattle.option_table.specs.Corners.{after_words}
use Rattle.share_base.proofs.Ends.{is_nil}
use Rattle.option_table.proofs.CornerSets.{some_words, no_words, no_text, is_some, tight_like}
use Rattle.option_table.proofs.CornerSets.{after_nothing, word_taken, word_refused}
use Rattle.option_table.proofs.corners.corners.Goals as goal

pub returns-then-is_empty-clause-gives : goal.returns-then-is_empty-clause-gives
returns-then-is_empty-clause-gives c =
    let none = is_nil c.unblanked-rest.result.now (sym c.if-is_empty.true ∙ c.is_empty.ensures) in
    sym
    (no_words c.args.text.now c.unblanked-rest.result.now c.unblanked-rest.ensures.value none
    ∙ no_text)

pub loop-rest-init : goal.loop-rest-init
loop-rest-init c =
    let some : 0 < length c.unblanked-rest.result.now =
    is_some c.unblanked-rest.result.now (sym c.if-is_empty.false ∙ c.is_empty.ensures) in
    let tight =
    tight_like c.args.text.now c.unblanked-rest.result.now c.unblanked-rest.ensures.value in
    record {
      same = some_words c.args.text.now c.unblanked-rest.result.now
          c.unblanked-rest.ensures.value tight some;
      tight = tight;
      bound = omega arith;
    }

pub returns-in-None-clause-gives : goal.returns-in-None-clause-gives
returns-in-None-clause-gives c =
    let some : 0 < length c.loop-rest.rest.now =
    is_some c.loop-rest.rest.now (sym c.loop-rest-test.true ∙ c.is_empty-in-loop-rest.ensures)
    in
    word_refused _ c.loop-rest.set c.loop-rest.rest.now c.split_at.result.0.now
    c.loop-rest.invariant.same c.loop-rest.invariant.tight some
    (c.split_at.ensures.front ∙ ap (λ n. take n c.loop-rest.rest.now) c.word_len.ensures.len)
    (sym c.after_word.ensures.gives ∙ c.in-None.is)

pub loop-rest-preserved : goal.loop-rest-preserved
loop-rest-preserved c =
    let some : 0 < length c.loop-rest.rest.now =
    is_some c.loop-rest.rest.now (sym c.loop-rest-test.true ∙ c.is_empty-in-loop-rest.ensures)
    in
    record {
      same =
          word_taken _ c.loop-rest.set c.in-Some.next c.loop-rest.rest.now c.split_at.result.0.now
          c.split_at.result.1.now c.unblanked-rest-in-loop-rest.result.now
          c.loop-rest.invariant.same c.loop-rest.invariant.tight some
          (c.split_at.ensures.front ∙ ap (λ n. take n c.loop-rest.rest.now) c.word_len.ensures.len)
          (c.split_at.ensures.back ∙ ap (λ n. drop n c.loop-rest.rest.now) c.word_len.ensures.len)
          c.unblanked-rest-in-loop-rest.ensures.value
          (sym c.after_word.ensures.gives ∙ c.in-Some.is);
      tight =
          tight_like c.split_at.result.1.now c.unblanked-rest-in-loop-rest.result.now
          c.unblanked-rest-in-loop-rest.ensures.value;
      bound = c.in-Some.ensures.bound;
    }

pub returns-clause-gives : goal.returns-clause-gives
returns-clause-gives c =
    let none =
    is_nil c.loop-rest.rest.now (sym c.loop-rest-test.false ∙ c.is_empty-in-loop-rest.ensures)
    in
    sym
    (c.loop-rest.invariant.same
    ∙ ap (λ (xs : List ℕ). after_words c.loop-rest.set (words_of xs)) none
    ∙ after_nothing c.loop-rest.set)
