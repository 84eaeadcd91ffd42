use Rattle.std.proofs.Common.{◌≤◌, length, sym, subst, arith}
use Rattle.message_codec.specs.declared.fields.FieldRef.{FieldRef}
use Rattle.message_codec.specs.Fields.{spelled, Fits}
use Rattle.message_codec.specs.FieldViews.{seen}
use Rattle.message_codec.proofs.Putting.{words_are_few, words_fit, always}
use Rattle.message_codec.proofs.encoder.put_field.Goals as goal

pub overflow_cast-words : goal.overflow_cast-words
overflow_cast-words c =
    let few =
    words_are_few c.in-Words.words.now
    (subst (λ (p : FieldRef). length (spelled (seen p)) ≤ 4194304) c.in-Words.is c.requires)
    in
    omega arith

pub
    returns-in_ok-extend_u32-in-Words-clause-fits : goal.returns-in_ok-extend_u32-in-Words-clause-fits
returns-in_ok-extend_u32-in-Words-clause-fits c =
    let few =
    subst (λ (p : FieldRef). length (spelled (seen p)) ≤ 4194304) c.in-Words.is c.requires in
    always c.put_words.result
    (subst (λ (p : FieldRef). Fits (seen p)) (sym c.in-Words.is)
    (words_fit c.in-Words.words.now few c.put_words.ensures.fits))
