use Rattle.std.proofs.Common.{◌∙◌}
use Rattle.std.specs.Prelude.{[], ◌∷◌, ◌++◌}
use Rattle.machine.specs.Connections.{fresh}
use Rattle.server_core.proofs.Added.{stands-added}
use Rattle.server_core.proofs.server.ServerCore.add_connection.Goals as goal

pub returns : goal.returns
returns c = λ b s blank is_new h.
    c.in_ok-log_open.ensures b (record s { connections = s.connections ++ fresh c.args.serial s.at ∷ [] })
    (stands-added b c.args.self.now s c.add.new.self c.begin-connection.result c.args.serial c.moment.result c.clip_limit-limit.result blank is_new (c.moment.ensures.moment ∙ h.at) (c.clip_limit-limit.ensures.limit b s h) c.begin-connection.ensures c.in_ok-add.ensures.ok h)
