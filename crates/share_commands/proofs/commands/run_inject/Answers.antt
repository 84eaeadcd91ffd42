use Rattle.share_commands.proofs.Injection.{begins, releases_all}
use Rattle.share_commands.proofs.commands.run_inject.Goals as goal

pub run_over-requires-clause-kept : goal.run_over-requires-clause-kept
run_over-requires-clause-kept g c = begins c.injecting.result c.injecting.ensures.goes c.injecting.ensures.role c.injecting.ensures.stands

pub returns-clause-released : goal.returns-clause-released
returns-clause-released g c =
    releases_all c.run_over.result (g.S.Source.state c.args.input.now) (g.S.Source.state c.run_over.new.input) (g.K.Sink.state c.args.out.now) (g.K.Sink.state c.run_over.new.out) c.run_over.ensures.reads
