use Rattle.std.proofs.Common.{◌∙◌, ◌+◌, sym, arith}
use Rattle.config_text.proofs.LineRuns.{goes_on, stops, at_end}
use Rattle.share_base.proofs.Ends.{is_nil}
use Rattle.config_text.proofs.drafts.Draft.lines.Goals as goal

pub returns-in-Err : goal.returns-in-Err
returns-in-Err c =
    stops c.in-Err.fault c.loop-rest.rest.now c.cut_line.result.0.now c.cut_line.result.1.now
    (c.loop-rest.line + 1) c.loop-rest.self _
    c.cut_line.ensures.lines c.loop-rest.invariant.same c.in-Err.ensures

pub loop-rest-preserved : goal.loop-rest-preserved
loop-rest-preserved c = record {
  same =
      c.loop-rest.invariant.same
      ∙ goes_on c.loop-rest.rest.now c.cut_line.result.0.now c.cut_line.result.1.now
      (c.loop-rest.line + 1) c.loop-rest.self _ c.cut_line.ensures.lines c.in-Ok.ensures;
  below = omega arith;
}

pub returns : goal.returns
returns c =
    c.loop-rest.invariant.same
    ∙ at_end (c.loop-rest.line + 1) c.loop-rest.self c.loop-rest.rest.now
    (is_nil c.loop-rest.rest.now (sym c.loop-rest-test.false ∙ c.is_empty.ensures))
