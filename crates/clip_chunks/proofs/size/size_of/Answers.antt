use Rattle.std.proofs.Common.{rules, ◌≡◌, true, Some, sym, ◌∙◌, ap}
use Rattle.std.specs.List.{list_all}
use Rattle.std.specs.Char.{is_ascii_digit}
use Rattle.clip_chunks.proofs.Sizes.{size_of-some}
use Rattle.clip_chunks.proofs.size.size_of.Goals as goal

pub returns : goal.returns
returns c =
    let digits : list_all is_ascii_digit c.args.text.now ≡ true =
    sym c.are_digits.ensures ∙ c.if-not-are_digits.false in
    ap Some c.number.ensures
    ∙ sym (size_of-some c.args.text.now (search rules) c.if-text-gt-SIZE_DIGITS.false digits)
