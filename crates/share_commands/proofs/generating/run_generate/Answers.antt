use Rattle.std.proofs.Common.{refl}
use Rattle.generated_run.specs.Summaries.{summary_text}
use Rattle.share_commands.proofs.Generated.{generates_none, counts_none, generates_some, good_none, good_print}
use Rattle.share_commands.proofs.generating.run_generate.Goals as goal

pub returns-in-Ok : goal.returns-in-Ok
returns-in-Ok g c =
    let old = g.K.Sink.state c.args.out.now in
    let new = g.K.Sink.state c.print_summary.new.out in
    record {
      generates = generates_some c.print_summary.result c.args.n c.in-Ok.summary old new c.in-Ok.ensures c.print_summary.ensures.prints;
      complete = good_print c.print_summary.result (summary_text c.in-Ok.summary) old new c.print_summary.ensures.prints;
      causes = c.print_summary.ensures.counts;
    }

pub returns-in-Err : goal.returns-in-Err
returns-in-Err g c =
    let old = g.K.Sink.state c.args.out.now in
    record {
      generates = generates_none c.in-Err.end c.args.n old old c.in-Err.ensures refl;
      complete = good_none c.in-Err.end c.in-Err.ensures;
      causes = counts_none c.in-Err.end old.faults old.faults c.in-Err.ensures refl;
    }
