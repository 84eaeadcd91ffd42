use Rattle.std.specs.Prelude.{string_bytes}
use Rattle.std.proofs.Common.{sym, ap, ◌∙◌}
use Rattle.command_words.specs.Numbers.{number_of}
use Rattle.command_words.proofs.SpelledNumbers.{serves, no_port, no_turns}
use Rattle.command_words.proofs.words.serve_by.Goals as goal

pub returns-in_default : goal.returns-in_default
returns-in_default c =
    no_port (string_bytes c.args.config.now) (string_bytes c.args.script.now) (string_bytes c.args.port.now) (string_bytes c.args.turns.now)
    (ap (number_of 0 65535) (sym c.as_bytes.ensures.value) ∙ sym c.number.ensures.value ∙ c.in_default.is)

pub returns-in_default-number : goal.returns-in_default-number
returns-in_default-number c =
    no_turns (string_bytes c.args.config.now) (string_bytes c.args.script.now) (string_bytes c.args.port.now) (string_bytes c.args.turns.now)
    (ap (number_of 0 4294967295) (sym c.as_bytes-2.ensures.value) ∙ sym c.number-2.ensures.value ∙ c.in_default-number.is)

pub returns : goal.returns
returns c =
    serves (string_bytes c.args.config.now) (string_bytes c.args.script.now) (string_bytes c.args.port.now) (string_bytes c.args.turns.now) c.as_str.result.now c.as_str-2.result.now c.in-Some.port c.in-Some-number.turns
    c.as_str.ensures.value c.as_str-2.ensures.value
    (ap (number_of 0 65535) (sym c.as_bytes.ensures.value) ∙ sym c.number.ensures.value ∙ c.in-Some.is)
    (ap (number_of 0 4294967295) (sym c.as_bytes-2.ensures.value) ∙ sym c.number-2.ensures.value ∙ c.in-Some-number.is)
