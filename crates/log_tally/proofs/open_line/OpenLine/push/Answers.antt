use Rattle.std.proofs.Common.{◌++◌, ◌∷◌, [], sym, subst}
use Rattle.log_tally.specs.declared.open_line.OpenLine.{OpenLine}
use Rattle.log_tally.specs.LogLines.{word_after, digits_value}
use Rattle.log_tally.specs.OpenLines.{IsKept}
use Rattle.log_tally.proofs.Keeping.{kept_at_blank, kept_first, kept_third, kept_fourth, kept_elsewhere}
use Rattle.log_tally.proofs.open_line.OpenLine.push.Goals as goal

pub returns-then-byte-eq32 : goal.returns-then-byte-eq32
returns-then-byte-eq32 c line h =
    kept_at_blank c.args.self.now line c.args.byte c.saturating_add-self.result c.if-byte-eq32.true c.saturating_add-self.ensures h

pub returns-then-self-eq0 : goal.returns-then-self-eq0
returns-then-self-eq0 c line h =
    subst (λ (o : OpenLine). IsKept o (line ++ c.args.byte ∷ [])) (sym c.push_first.ensures)
    (kept_first c.args.self.now line c.args.byte c.if-byte-eq32.false c.if-self-eq0.true h)

pub returns-then-self-eq2 : goal.returns-then-self-eq2
returns-then-self-eq2 c line h =
    kept_third c.args.self.now line c.args.byte c.with_digit-self.result c.if-byte-eq32.false c.if-self-eq2.true
    (c.with_digit-self.ensures (digits_value (word_after 2 line)) h.taken) h

pub returns-then-self-eq3 : goal.returns-then-self-eq3
returns-then-self-eq3 c line h =
    kept_fourth c.args.self.now line c.args.byte c.with_digit-self-then-self-eq3.result c.if-byte-eq32.false c.if-self-eq3.true
    (c.with_digit-self-then-self-eq3.ensures (digits_value (word_after 3 line)) h.queued) h

pub returns-else-self-eq3 : goal.returns-else-self-eq3
returns-else-self-eq3 c line h =
    kept_elsewhere c.args.self.now line c.args.byte c.if-byte-eq32.false c.if-self-eq0.false c.if-self-eq2.false c.if-self-eq3.false h
