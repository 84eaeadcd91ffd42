use Rattle.machine.specs.States.{State}
use Rattle.machine.specs.Timers.{clock, deaths, silences, beats, gate_timer}
use Rattle.server_core.proofs.server.ServerCore.moment.Goals as goal

pub returns : goal.returns
returns c = λ b s h.
    let one : State = clock c.args.t s in
    let two : State = deaths one in
    let three : State = silences two in
    let four : State = beats three in
    c.in_ok-run_script.ensures b (gate_timer four)
    (c.in_ok-gate_timer.ensures b four
    (c.in_ok-timers-3.ensures b three
    (c.in_ok-timers-2.ensures b two
    (c.in_ok-timers.ensures b one
    (c.clock.ensures b s h)))))
