use Rattle.std.specs.Prelude.{refl, ℕ, length, Some}
use Rattle.std.proofs.Common.{ap, ◌∙◌}
use Rattle.hello_states.specs.Phases.{Phase, Joined, after_hearing_in}
use Rattle.hello_states.specs.Handshake.{joined_after_info}
use Rattle.hello_states.specs.Advancing.{reshaped_to}
use Rattle.connection_table.proofs.Advancing.{reshaping-course}
use Rattle.server_core.proofs.Known.{stands-advanced}
use Rattle.server_core.proofs.server.ServerCore.put_shape.Goals as goal

pub returns : goal.returns
returns c = λ joined b s p h.
    let now : ℕ = c.moment.result in
    let heard : Phase = after_hearing_in (Joined joined) s.at in
    stands-advanced b c.args.self.now s c.reshape.new.self c.args.serial heard (joined_after_info (Some c.args.shape) s.at joined) (reshaped_to c.args.shape now) (reshaping-course c.args.shape now).ends ((reshaping-course c.args.shape now).keeps (length s.config.screens) heard)
    (ap (λ (n : ℕ). reshaped_to c.args.shape n heard) (c.moment.ensures.moment ∙ h.at)) refl p h c.reshape.ensures
