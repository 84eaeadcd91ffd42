use Rattle.std.specs.Prelude.{◌≡◌, ℕ, false}
use Rattle.std.specs.Option.{option_map_or}
use Rattle.std.proofs.Common.{sym, ap, ◌∙◌, subst}
use Rattle.hello_states.specs.Phases.{Phase, is_dead_in, is_silent, is_beat_due_in}
use Rattle.connection_table.specs.declared.phase.Phase as kept
use Rattle.connection_table.specs.PhaseOf.{phase_of}
use Rattle.machine.specs.Timers.{has_died, was_silent, owes_beat}
use Rattle.server_core.specs.declared.timers.Timer.{Timer}
use Rattle.server_core.specs.Timing.{test_of, has_come}
use Rattle.server_core.proofs.Found.{some-read, none-read}
use Rattle.server_core.proofs.server.ServerCore.has_come.Goals as goal

pub returns-in-Death : goal.returns-in-Death
returns-in-Death c = λ b s h. subst (λ (t : Timer). c.is_dead.result ≡ has_come t c.args.serial s) (sym c.in-Death.is)
    (some-read b c.args.self.now s c.args.serial c.in-Some.connection.now c.is_dead.result (λ o. option_map_or (has_died s) o false) c.in-Some.ensures h
    (λ d r. c.is_dead.ensures
    ∙ (ap (λ (p : kept.Phase). is_dead_in (phase_of p) c.moment.result) c.phase.ensures
    ∙ (ap (λ (p : Phase). is_dead_in p c.moment.result) r.phase
    ∙ ap (λ (n : ℕ). is_dead_in d.phase n) (c.moment.ensures.moment ∙ h.at)))))

pub returns-in-Silence : goal.returns-in-Silence
returns-in-Silence c = λ b s h. subst (λ (t : Timer). c.is_silent.result ≡ has_come t c.args.serial s) (sym c.in-Silence.is)
    (some-read b c.args.self.now s c.args.serial c.in-Some.connection.now c.is_silent.result (λ o. option_map_or (was_silent s) o false) c.in-Some.ensures h
    (λ d r. c.is_silent.ensures
    ∙ (ap (λ (p : kept.Phase). is_silent (phase_of p) c.moment-in-Silence.result) c.phase-in-Silence.ensures
    ∙ (ap (λ (p : Phase). is_silent p c.moment-in-Silence.result) r.phase
    ∙ ap (λ (n : ℕ). is_silent d.phase n) (c.moment-in-Silence.ensures.moment ∙ h.at)))))

pub returns-in-Beat : goal.returns-in-Beat
returns-in-Beat c = λ b s h. subst (λ (t : Timer). c.is_beat_due.result ≡ has_come t c.args.serial s) (sym c.in-Beat.is)
    (some-read b c.args.self.now s c.args.serial c.in-Some.connection.now c.is_beat_due.result (λ o. option_map_or (owes_beat s) o false) c.in-Some.ensures h
    (λ d r. c.is_beat_due.ensures
    ∙ (ap (λ (p : kept.Phase). is_beat_due_in (phase_of p) c.moment-in-Beat.result) c.phase-in-Beat.ensures
    ∙ (ap (λ (p : Phase). is_beat_due_in p c.moment-in-Beat.result) r.phase
    ∙ ap (λ (n : ℕ). is_beat_due_in d.phase n) (c.moment-in-Beat.ensures.moment ∙ h.at)))))

pub returns-in-None : goal.returns-in-None
returns-in-None c = λ b s h. sym (ap (λ o. option_map_or (test_of c.args.timer s) o false) (none-read b c.args.self.now s c.args.serial c.in-None.ensures h))
