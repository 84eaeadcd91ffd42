use Rattle.std.specs.Prelude.{Err}
use Rattle.std.proofs.Common.{subst}
use Rattle.hub_acts.specs.declared.answers.CallFault.{CallFault}
use Rattle.hub_acts.specs.LinkActs.{connect_act}
use Rattle.hub_acts.specs.Links.{LinkCalls}
use Rattle.client_core.specs.Happenings.{joining}
use Rattle.client_loop.proofs.Joinings.{connect-failed, connect-none, now-none, begins}
use Rattle.client_loop.proofs.joining.join.Goals as goal

pub returns-in-Ok-now : goal.returns-in-Ok-now
returns-in-Ok-now g c =
    begins g.L.Link.state g.L.Link.leads g.L.Link.goes_on (joining c.args.name c.args.w c.args.h c.args.script) c.args.host.now c.args.port c.args.turns c.args.link.now c.connect.new.self c.attend_new.new.link (g.K.Sink.state c.args.out.now) c.now.new.self c.in-Ok-now.now c.attend_new.result (g.K.Sink.state c.attend_new.new.out)
    c.in-Ok.ensures.calls c.in-Ok.ensures.leads c.in-Ok-now.ensures.calls c.in-Ok-now.ensures.leads c.attend_new.ensures

pub returns-in-Ok : goal.returns-in-Ok
returns-in-Ok g c =
    now-none g.L.Link.state g.L.Link.leads g.L.Link.goes_on (joining c.args.name c.args.w c.args.h c.args.script) c.args.host.now c.args.port c.args.turns c.args.link.now c.connect.new.self c.now.new.self (g.K.Sink.state c.args.out.now)
    c.in-Ok.ensures.calls c.in-Ok.ensures.leads c.in-Err.ensures.calls c.in-Err.ensures.leads

pub returns-in-Err-Failed : goal.returns-in-Err-Failed
returns-in-Err-Failed g c =
    connect-failed g.L.Link.state g.L.Link.leads g.L.Link.goes_on (joining c.args.name c.args.w c.args.h c.args.script) c.args.host.now c.args.port c.args.turns c.args.link.now c.args.link.now c.connect.new.self (g.K.Sink.state c.args.out.now)
    (subst (λ (f : CallFault). LinkCalls (connect_act c.args.host.now c.args.port (Err f)) (g.L.Link.state c.args.link.now) (g.L.Link.state c.connect.new.self)) c.in-Err-Failed.field-0-is c.in-Err-Failed.ensures.calls) c.in-Err-Failed.ensures.leads

pub returns : goal.returns
returns g c =
    connect-none g.L.Link.state g.L.Link.leads g.L.Link.goes_on (joining c.args.name c.args.w c.args.h c.args.script) c.args.host.now c.args.port c.args.turns c.args.link.now c.args.link.now c.connect.new.self (g.K.Sink.state c.args.out.now)
    (subst (λ (f : CallFault). LinkCalls (connect_act c.args.host.now c.args.port (Err f)) (g.L.Link.state c.args.link.now) (g.L.Link.state c.connect.new.self)) c.in-Err-OutOfMemory.field-0-is c.in-Err-OutOfMemory.ensures.calls) c.in-Err-OutOfMemory.ensures.leads
