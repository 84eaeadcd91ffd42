use Rattle.std.specs.Prelude.{string_bytes}
use Rattle.std.proofs.Common.{sym, ap, ◌∙◌}
use Rattle.share_base.specs.Names.{is_name}
use Rattle.command_words.specs.Numbers.{number_of}
use Rattle.command_words.proofs.SpelledNumbers.{joins, join_parts}
use Rattle.command_words.proofs.words.join_by.Goals as goal

pub returns-in_default-number : goal.returns-in_default-number
returns-in_default-number c form h =
    (join_parts (string_bytes c.args.name.now) (string_bytes c.args.host.now) (string_bytes c.args.port.now) (string_bytes c.args.w.now) (string_bytes c.args.h.now) (string_bytes c.args.script.now) (string_bytes c.args.turns.now) form h).is_port
    (ap (number_of 0 65535) (sym c.as_bytes-2.ensures.value) ∙ sym c.number.ensures.value ∙ c.in_default-number.is)

pub returns-in_default-number-2 : goal.returns-in_default-number-2
returns-in_default-number-2 c form h =
    (join_parts (string_bytes c.args.name.now) (string_bytes c.args.host.now) (string_bytes c.args.port.now) (string_bytes c.args.w.now) (string_bytes c.args.h.now) (string_bytes c.args.script.now) (string_bytes c.args.turns.now) form h).is_w
    (ap (number_of 1 32767) (sym c.as_bytes-3.ensures.value) ∙ sym c.number-2.ensures.value ∙ c.in_default-number-2.is)

pub returns-in_default-number-3 : goal.returns-in_default-number-3
returns-in_default-number-3 c form h =
    (join_parts (string_bytes c.args.name.now) (string_bytes c.args.host.now) (string_bytes c.args.port.now) (string_bytes c.args.w.now) (string_bytes c.args.h.now) (string_bytes c.args.script.now) (string_bytes c.args.turns.now) form h).is_h
    (ap (number_of 1 32767) (sym c.as_bytes-4.ensures.value) ∙ sym c.number-3.ensures.value ∙ c.in_default-number-3.is)

pub returns-in_default-number-4 : goal.returns-in_default-number-4
returns-in_default-number-4 c form h =
    (join_parts (string_bytes c.args.name.now) (string_bytes c.args.host.now) (string_bytes c.args.port.now) (string_bytes c.args.w.now) (string_bytes c.args.h.now) (string_bytes c.args.script.now) (string_bytes c.args.turns.now) form h).are_turns
    (ap (number_of 0 4294967295) (sym c.as_bytes-5.ensures.value) ∙ sym c.number-4.ensures.value ∙ c.in_default-number-4.is)

pub returns : goal.returns
returns c =
    joins (string_bytes c.args.name.now) (string_bytes c.args.host.now) (string_bytes c.args.port.now) (string_bytes c.args.w.now) (string_bytes c.args.h.now) (string_bytes c.args.script.now) (string_bytes c.args.turns.now) c.in-Some.name c.as_str.result.now c.as_str-2.result.now c.in-Some-number.port c.in-Some-number-2.w c.in-Some-number-3.h c.in-Some-number-4.turns
    (c.in-Some.ensures.1 ∙ c.as_bytes.ensures.value) c.as_str.ensures.value c.as_str-2.ensures.value (ap is_name (sym c.as_bytes.ensures.value) ∙ c.in-Some.ensures.0)
    (ap (number_of 0 65535) (sym c.as_bytes-2.ensures.value) ∙ sym c.number.ensures.value ∙ c.in-Some-number.is)
    (ap (number_of 1 32767) (sym c.as_bytes-3.ensures.value) ∙ sym c.number-2.ensures.value ∙ c.in-Some-number-2.is)
    (ap (number_of 1 32767) (sym c.as_bytes-4.ensures.value) ∙ sym c.number-3.ensures.value ∙ c.in-Some-number-3.is)
    (ap (number_of 0 4294967295) (sym c.as_bytes-5.ensures.value) ∙ sym c.number-4.ensures.value ∙ c.in-Some-number-4.is)
