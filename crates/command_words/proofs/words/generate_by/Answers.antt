use Rattle.std.specs.Prelude.{string_bytes}
use Rattle.std.proofs.Common.{sym, ap, ◌∙◌}
use Rattle.command_words.specs.Numbers.{number_of}
use Rattle.command_words.proofs.SpelledNumbers.{generates, not_long}
use Rattle.command_words.proofs.words.generate_by.Goals as goal

pub returns-in_default : goal.returns-in_default
returns-in_default c =
    not_long (string_bytes c.args.n.now)
    (ap (number_of 0 18446744073709551615) (sym c.as_bytes.ensures.value) ∙ sym c.number.ensures.value ∙ c.in_default.is)

pub returns : goal.returns
returns c =
    generates (string_bytes c.args.n.now) c.in-Some.n
    (ap (number_of 0 18446744073709551615) (sym c.as_bytes.ensures.value) ∙ sym c.number.ensures.value ∙ c.in-Some.is)
