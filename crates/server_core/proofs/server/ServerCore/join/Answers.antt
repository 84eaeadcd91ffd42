use Rattle.std.specs.Prelude.{◌<◌, refl, ℕ, [], ◌∷◌, length, Some}
use Rattle.std.proofs.Common.{sym, subst}
use Rattle.hello_states.specs.Phases.{Asked}
use Rattle.hello_states.specs.Handshake.{asked_after_info}
use Rattle.machine.specs.Targets.{Client}
use Rattle.machine.specs.Connections.{advanced}
use Rattle.machine.specs.States.{State, Join}
use Rattle.machine.specs.Screens.{change}
use Rattle.machine.specs.Routing.{logs}
use Rattle.machine.specs.Clipboards.{clips_joined}
use Rattle.machine.specs.Information.{name_of}
use Rattle.server_core.specs.Targets.{IsThere}
use Rattle.server_core.specs.Joining.{tell_options}
use Rattle.server_core.specs.Standing.{Stands}
use Rattle.server_core.proofs.Open.{lives-open, changed-open}
use Rattle.server_core.proofs.Known.{phase-lives, phase-known, same-serial}
use Rattle.server_core.proofs.server.ServerCore.join.Goals as goal

pub returns : goal.returns
returns c = λ asked e b s p h.
    let n : ℕ = c.args.serial in
    let dirty : State = clips_joined c.args.screen.0 s in
    let inside : State = change n (advanced (asked_after_info (Some c.args.shape) s.at asked)) dirty in
    let logged : State = logs (Join n (name_of s c.args.screen.0) ∷ []) inside in
    let known : c.args.screen.0 < length s.config.screens = subst (λ (m : ℕ). m < length s.config.screens) (sym e) (phase-known b c.args.self.now s n (Asked asked) p h) in
    let there : IsThere logged (Client n) = changed-open n (advanced (asked_after_info (Some c.args.shape) s.at asked)) (same-serial (asked_after_info (Some c.args.shape) s.at asked)) s.connections (Client n) (lives-open s n (phase-lives s n (Asked asked) p refl)) in
    let all : Stands b c.tell_options.new.self (tell_options n c.args.screen.0 logged) = c.in_ok-tell_options.ensures b logged (there, known) (c.in_ok-log_join.ensures b inside known (c.come_in.ensures asked b dirty p (c.dirty_clips.ensures b s h))) in
    subst (λ (m : ℕ). Stands b c.tell_options.new.self (tell_options n m (logs (Join n (name_of s m) ∷ []) (change n (advanced (asked_after_info (Some c.args.shape) s.at asked)) (clips_joined m s))))) e all
