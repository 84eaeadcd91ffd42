use Rattle.std.proofs.Common.{◌∙◌}
use Rattle.std.proofs.lemmas.Result.{err_from_is_err_and}
use Rattle.text_lines.specs.Views.{word_text}
use Rattle.hotkey_text.proofs.ModSteps.{first_words, last_words, refused_word, taken_word}
use Rattle.hotkey_text.proofs.ModSteps.{shorter_behind}
use Rattle.hotkey_text.proofs.mod_reading.mods.Goals as goal

pub loop-rest-init : goal.loop-rest-init
loop-rest-init c =
    first_words c.args.bytes.now (word_text c.run.result.0, c.run.result.1.now) c.run.ensures

pub returns-in_err-mods : goal.returns-in_err-mods
returns-in_err-mods c =
    let p = err_from_is_err_and c.from_residual.result c.from_residual.ensures.1 in
    rw (p.1, p.2) (c.loop-rest.invariant
    ∙ refused_word c.loop-rest.mods (word_text c.loop-rest.word) c.loop-rest.behind.now
    c.in-Some.rest.now _ c.in-Some.ensures c.in_err-mods.ensures)

pub loop-rest-smaller : goal.loop-rest-smaller
loop-rest-smaller c =
    shorter_behind c.loop-rest.behind.now c.in-Some.rest.now
    (word_text c.run-in-Some.result.0, c.run-in-Some.result.1.now) c.in-Some.ensures
    c.run-in-Some.ensures

pub loop-rest-preserved : goal.loop-rest-preserved
loop-rest-preserved c =
    c.loop-rest.invariant
    ∙ taken_word c.loop-rest.mods c.in_ok-mods.mods (word_text c.loop-rest.word)
    c.loop-rest.behind.now c.in-Some.rest.now
    (word_text c.run-in-Some.result.0, c.run-in-Some.result.1.now) c.in-Some.ensures
    c.in_ok-mods.ensures c.run-in-Some.ensures

pub returns : goal.returns
returns c =
    c.loop-rest.invariant
    ∙ last_words c.loop-rest.mods (word_text c.loop-rest.word) c.loop-rest.behind.now
    c.in_default.ensures
