use Rattle.std.proofs.Common.{sym, ap, length, ◌∙◌}
use Rattle.message_codec.specs.declared.fields.FieldRef.{FieldRef}
use Rattle.message_codec.specs.Fields.{spelled}
use Rattle.message_codec.specs.FieldViews.{seen}
use Rattle.message_codec.proofs.Putting.{length-spelled_words}
use Rattle.message_codec.proofs.encoder.field_len.Goals as goal

pub returns-in-Words-clause-value : goal.returns-in-Words-clause-value
returns-in-Words-clause-value c =
    sym (length-spelled_words c.in-Words.words.now)
    ∙ ap (λ (p : FieldRef). length (spelled (seen p))) (sym c.in-Words.is)
