use Rattle.message_codec.specs.declared.messages.Msg.TheVariants as message
use Rattle.client_core.specs.Hearing.{heard}
use Rattle.client_core.proofs.Screens.{turns-roomy}
use Rattle.client_core.proofs.hearer.leave.Goals as goal

pub returns-clause-shown : goal.returns-clause-shown
returns-clause-shown c = turns-roomy (λ d. heard d message.Leave) c.args.printer.now c.make_room.new.self c.leave.new.self c.make_room.ensures.same c.leave.ensures
