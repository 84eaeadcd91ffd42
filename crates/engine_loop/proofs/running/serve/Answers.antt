use Rattle.std.specs.Prelude.{◌≡◌, false, true}
use Rattle.std.proofs.Common.{refl, sym, ◌∙◌}
use Rattle.engine_loop.specs.Watches.{serials_in}
use Rattle.engine_loop.specs.Ends.{is_failure}
use Rattle.engine_loop.proofs.Starts.{first_course, starts}
use Rattle.engine_loop.proofs.Departs.{goes-on, to-leave, open-rise, turns-failed, none-served}
use Rattle.engine_loop.proofs.running.serve.Goals as goal

pub returns-in_default : goal.returns-in_default
returns-in_default g c = λ o served.
    none-served g.E.Engine.departs g.H.Hub.state g.H.Hub.leads g.H.Hub.stays o c.args.turns c.args.core.now c.args.hub.now (g.K.Sink.state c.args.out.now)

pub take_turns-end-requires-clause-there : goal.take_turns-end-requires-clause-there
take_turns-end-requires-clause-there g c =
    let o = c.requires.starts.0 in
    (g.K.Sink.state c.args.out.now, first_course o c.args.hub.now, (refl, refl), refl, starts g.E.Engine.serves g.H.Hub.state g.H.Hub.leads g.H.Hub.stays o c.args.core.now c.args.hub.now c.new-watch.result (g.K.Sink.state c.args.out.now) c.requires.new_hub c.requires.starts.1 c.new-watch.ensures.listens c.new-watch.ensures.streams)

pub returns-then-is_failure : goal.returns-then-is_failure
returns-then-is_failure g c = λ o served.
    let fails : is_failure c.take_turns-end.result ≡ true = sym c.is_failure.ensures ∙ c.if-is_failure.true in
    turns-failed g.E.Engine.serves g.E.Engine.departs g.met.E.Engine.departing g.H.Hub.state g.H.Hub.leads (first_course o c.args.hub.now) c.take_turns-end.result c.args.turns c.take_turns-end.new.core c.take_turns-end.new.hub c.take_turns-end.new.watch (g.K.Sink.state c.args.out.now) (g.K.Sink.state c.take_turns-end.new.out) fails (c.take_turns-end.ensures.turns (g.K.Sink.state c.args.out.now) (first_course o c.args.hub.now) (refl, refl) refl (starts g.E.Engine.serves g.H.Hub.state g.H.Hub.leads g.H.Hub.stays o c.args.core.now c.args.hub.now c.new-watch.result (g.K.Sink.state c.args.out.now) c.requires.new_hub served c.new-watch.ensures.listens c.new-watch.ensures.streams))

pub depart-requires-clause-same : goal.depart-requires-clause-same
depart-requires-clause-same g c =
    let goes : is_failure c.take_turns-end.result ≡ false = sym c.is_failure.ensures ∙ c.if-is_failure.false in
    goes-on c.take_turns-end.result (serials_in c.take_turns-end.new.watch ≡ (g.H.Hub.state c.take_turns-end.new.hub).open_now) goes c.take_turns-end.ensures.same

pub depart-requires-clause-rise : goal.depart-requires-clause-rise
depart-requires-clause-rise g c =
    let goes : is_failure c.take_turns-end.result ≡ false = sym c.is_failure.ensures ∙ c.if-is_failure.false in
    let o = c.requires.starts.0 in
    let q = to-leave g.E.Engine.serves g.E.Engine.departs g.met.E.Engine.departing g.H.Hub.state g.H.Hub.leads (first_course o c.args.hub.now) c.args.turns c.take_turns-end.new.core c.take_turns-end.new.hub c.take_turns-end.new.watch (g.K.Sink.state c.args.out.now) (g.K.Sink.state c.take_turns-end.new.out) (refl, refl) c.take_turns-end.result goes (c.take_turns-end.ensures.turns (g.K.Sink.state c.args.out.now) (first_course o c.args.hub.now) (refl, refl) refl (starts g.E.Engine.serves g.H.Hub.state g.H.Hub.leads g.H.Hub.stays o c.args.core.now c.args.hub.now c.new-watch.result (g.K.Sink.state c.args.out.now) c.requires.new_hub c.requires.starts.1 c.new-watch.ensures.listens c.new-watch.ensures.streams)) in
    open-rise g.E.Engine.serves g.E.Engine.departs g.met.E.Engine.departing g.H.Hub.state g.H.Hub.leads (first_course o c.args.hub.now) c.args.turns c.take_turns-end.new.core c.take_turns-end.new.hub c.take_turns-end.new.watch (g.K.Sink.state c.args.out.now) (g.K.Sink.state c.take_turns-end.new.out) (refl, refl) c.take_turns-end.result q

pub returns : goal.returns
returns g c = λ o served.
    c.depart.ensures (first_course o c.args.hub.now) c.args.turns (g.K.Sink.state c.args.out.now) (refl, refl) (c.take_turns-end.ensures.turns (g.K.Sink.state c.args.out.now) (first_course o c.args.hub.now) (refl, refl) refl (starts g.E.Engine.serves g.H.Hub.state g.H.Hub.leads g.H.Hub.stays o c.args.core.now c.args.hub.now c.new-watch.result (g.K.Sink.state c.args.out.now) c.requires.new_hub served c.new-watch.ensures.listens c.new-watch.ensures.streams))
