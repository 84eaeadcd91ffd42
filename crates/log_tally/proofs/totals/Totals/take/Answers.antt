use Rattle.log_tally.specs.LogLines.{split_lines}
use Rattle.log_tally.proofs.TotalSteps.{totals_go_on, totals_end}
use Rattle.log_tally.proofs.totals.Totals.take.Goals as goal

pub returns-then-byte-ne10 : goal.returns-then-byte-ne10
returns-then-byte-ne10 c text h =
    totals_go_on c.args.self.now c.push.new.self text c.args.byte c.if-byte-ne10.true c.push.ensures h

pub returns : goal.returns
returns c text h =
    let rest = (split_lines text).rest in
    totals_end c.args.self.now c.new-self.result text c.args.byte
    c.saturating_add-self.result c.saturating_add-self-2.result c.saturating_add-self-3.result c.frames.result c.taken.result c.queued.result
    c.if-byte-ne10.false c.new-self.ensures (c.frames.ensures rest h.line) (c.taken.ensures rest h.line) (c.queued.ensures rest h.line)
    c.saturating_add-self.ensures c.saturating_add-self-2.ensures c.saturating_add-self-3.ensures h
