use Rattle.std.specs.Prelude.{refl, ℕ, length, Some}
use Rattle.std.proofs.Common.{ap, ◌∙◌}
use Rattle.hello_states.specs.Phases.{Asked}
use Rattle.hello_states.specs.Handshake.{asked_after_info}
use Rattle.hello_states.specs.Advancing.{joined_with}
use Rattle.connection_table.proofs.Advancing.{joining-course}
use Rattle.server_core.proofs.Known.{stands-advanced}
use Rattle.server_core.proofs.server.ServerCore.come_in.Goals as goal

pub returns : goal.returns
returns c = λ asked b s p h.
    let now : ℕ = c.moment.result in
    stands-advanced b c.args.self.now s c.join.new.self c.args.serial (Asked asked) (asked_after_info (Some c.args.shape) s.at asked) (joined_with c.args.shape now) (joining-course c.args.shape now).ends ((joining-course c.args.shape now).keeps (length s.config.screens) (Asked asked))
    (ap (λ (n : ℕ). asked_after_info (Some c.args.shape) n asked) (c.moment.ensures.moment ∙ h.at)) refl p h c.join.ensures
